use Rattle.std.proofs.Common.{rules, arith, ◌≡◌, ◌∷◌, ◌+◌, Bool, true, false, cond, not, ◌&&◌, drop, refl, sym, ap, ◌∙◌, to_z, of_z, w32}
use denote.Enum.Bare.{sameb}
use Rattle.std.specs.FinMap as finite
use Rattle.std.proofs.lemmas.List.{at_drop_more}
use Rattle.kip_msgs.specs.Views.{commit_request_partition_value}
use Rattle.group_types.specs.declared.code.Code.{Code}
use Rattle.group_types.specs.declared.code.Code.TheVariants as codes
use Rattle.group_types.specs.declared.code.Code.TheVariants.{NoError}
use Rattle.group_types.specs.contracts.code.Code.{the_type}
use Rattle.group_types.specs.Commit.{code_of_taken, is_stored, is_there, is_too_long, with_offset, with_offsets}
use Rattle.group_epochs.specs.Request.{commitment_of}
use Rattle.offset_guard.proofs.Commits.{partition_commitments}
use Rattle.offset_guard.proofs.offsets.Offsets.put_topic.Goals.{then-eq+in_ok-committed+in_ok-put, else-eq}
use Rattle.offset_guard.proofs.offsets.Offsets.put_topic.Goals as goal

abbrev is_success : Code → Bool
is_success code = sameb the_type code NoError

-- stored is what has the code of success
success : (there long : Bool) → (there && not long) ≡ is_success (cond there (cond long codes.OffsetMetadataTooLarge NoError) codes.UnknownTopicOrPartition)
success true true = refl
success true false = refl
success false long = refl

pub loop-partition-preserved : goal.loop-partition-preserved
loop-partition-preserved c =
    let image = c.args.image.now in
    let name = c.args.topic.now.name.now in
    let items = c.as_slice-partition-items.result.now in
    let i = c.loop-partition.partition-index in
    let item = c.partition-item.result in
    let x = commitment_of (commit_request_partition_value item) in
    let rest = drop (i + 1) items in
    let count : to_z w32 (of_z w32 c.partitions_of-count.result) ≡ c.partitions_of-count.result = search rules in
    let code : c.code_of_taken.result ≡ code_of_taken image name x = c.code_of_taken.ensures image name (count ∙ c.partitions_of-count.ensures) in
    let stored : is_stored image name x ≡ is_success c.code_of_taken.result =
    success (is_there image name x.index) (is_too_long x.committed.metadata) ∙ sym (ap is_success code) in
    let step : c.if-eq.self ≡ with_offset (is_stored image name x) c.loop-partition.self name x =
    elim c.if-eq.branch [
      | then-eq+in_ok-committed+in_ok-put w ↦
          let index : to_z w32 (of_z w32 item.partition_index) ≡ item.partition_index = search rules in
          w.self-is ∙ w.in_ok-put.ensures ∙ (λ j. finite.insert c.loop-partition.self (name, index j) (w.in_ok-committed.ensures j))
          ∙ sym (ap (λ b. with_offset b c.loop-partition.self name x) (stored ∙ sym w.if-eq.ensures))
      | else-eq w ↦
          w.self-is ∙ sym (ap (λ b. with_offset b c.loop-partition.self name x) (stored ∙ sym w.if-eq.ensures))
    ] in
    ap (λ o. with_offsets image o (partition_commitments name rest)) step
    ∙ ap (λ p. with_offsets image c.loop-partition.self (partition_commitments name (p ∷ rest))) c.partition-item.is
    ∙ sym (ap (with_offsets image c.loop-partition.self) (at_drop_more (partition_commitments name) items i item (omega arith)))
    ∙ c.loop-partition.invariant
