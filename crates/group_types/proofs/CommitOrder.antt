-- A commit's codes, by the first reason that applies.
use Rattle.std.proofs.Common.{◌≡◌, ℕ, ◌<◌, ℤ, pos, negsuc, Bool, true, false, cond, ◌&&◌, ◌==◌, int_lt, le-ltb, length, Option, Some, None, refl, sym, ap, subst, ◌∙◌, arith, true≢false}
use Rattle.std.specs.FinMap as finite
use Rattle.std.proofs.lemmas.Bool.Decides.{Decides-eqb, Decides-int_eq, Decides-ltb}
use Rattle.group_types.specs.declared.code.Code.{Code}
use Rattle.group_types.specs.declared.code.Code.TheVariants as codes
use Rattle.group_types.specs.declared.epoch.Epoch.{Epoch}
use Rattle.group_types.specs.declared.epoch.Epoch.TheVariants.{At, Away}
use Rattle.group_types.specs.Limits.{LONGEST_METADATA}
use Rattle.group_types.specs.Text.{Text}
use Rattle.group_types.specs.Topics.{Topic, Topics}
use Rattle.group_types.specs.Epoch.{is_at}
use Rattle.group_types.specs.Group.{Record, Group}
use Rattle.group_types.specs.Owners.{is_index}
use Rattle.group_types.specs.Commit.{Commit, Commitment, code_of_taken, commit_reply, is_there, is_too_long, refusal_of_member}
use Rattle.group_types.specs.CommitCodes.{CommitsAreAnsweredInOrder, HasCommitCodes, IsAtMemberEpoch, IsCommitCode, IsOfNobody, IsPartition, IsTaken, IsTooLong, nobodys, members, unknown_member, stale_epoch, unknown_partition, long_metadata, stored}
use Rattle.group_types.proofs.Indexes.{index_below, index_of}
use Rattle.group_types.proofs.Lookups.{not_none, some_is}

-- ---- a taken commit

too_long : (o : Option Text) → is_too_long o ≡ true → IsTooLong o
too_long None never = absurd (true≢false (sym never))
too_long (Some text) so = (text, refl, (Decides-ltb LONGEST_METADATA (length text)).0 so)

not_too_long : (o : Option Text) → is_too_long o ≡ false → ¬ IsTooLong o
not_too_long None short (text, never, long) = not_none text never
not_too_long (Some text) short (other, same, long) =
    true≢false (sym ((Decides-ltb LONGEST_METADATA (length text)).1 (subst (λ (t : Text). LONGEST_METADATA < length t) (sym (some_is text other same)) long)) ∙ short)

is_partition : (image : Topics) (name : Text) (index : ℤ) → is_there image name index ≡ true → IsPartition image name index
is_partition image name index so = by (finite.get image name) refl so
  where
    by : (o : Option Topic) → finite.get image name ≡ o → Rattle.std.specs.Option.option_map_or (λ (t : Topic). is_index index t.count) o false ≡ true → IsPartition image name index
    by None none never = absurd (true≢false (sym never))
    by (Some topic) there so =
        let below = index_of index topic.count so in
        record { topic = topic; is_topic = there; number = below.0; is_number = below.1; below = below.2 }

no_partition : (image : Topics) (name : Text) (index : ℤ) → is_there image name index ≡ false → ¬ IsPartition image name index
no_partition image name index none is =
    true≢false (sym (ap (λ (o : Option Topic). Rattle.std.specs.Option.option_map_or (λ (t : Topic). is_index index t.count) o false) is.is_topic
    ∙ index_below index is.number is.topic.count is.is_number is.below) ∙ none)

module _ (g : Group) (c : Commit) (image : Topics) (taken : IsTaken g c) (name : Text) (x : Commitment) where
  by_metadata : IsPartition image name x.index → (long : Bool) → is_too_long x.committed.metadata ≡ long
      → IsCommitCode g c image name x (cond long codes.OffsetMetadataTooLarge codes.NoError)
  by_metadata there true so = long_metadata taken there (too_long x.committed.metadata so)
  by_metadata there false so = stored taken there (not_too_long x.committed.metadata so)

  taken_code : IsCommitCode g c image name x (code_of_taken image name x)
  taken_code = by (is_there image name x.index) refl
    where
      by : (there : Bool) → is_there image name x.index ≡ there
          → IsCommitCode g c image name x (cond there (cond (is_too_long x.committed.metadata) codes.OffsetMetadataTooLarge codes.NoError) codes.UnknownTopicOrPartition)
      by true so = by_metadata (is_partition image name x.index so) (is_too_long x.committed.metadata) refl
      by false so = unknown_partition taken (no_partition image name x.index so)

-- ---- whether it is taken

module _ (g : Group) (c : Commit) (image : Topics) where
  abbrev CodesBy : Option Code → Type 0
  CodesBy o = HasCommitCodes g c image (commit_reply o c image)

  taken : IsTaken g c → CodesBy None
  taken is = record { code = code_of_taken image; answers = refl; is_code = taken_code g c image is }

  refused : (code : Code) → ((name : Text) (x : Commitment) → IsCommitCode g c image name x code) → CodesBy (Some code)
  refused code is = record { code = λ name x. code; answers = refl; is_code = is }

  at_epoch : (e : Epoch) (z : ℤ) → is_at e z ≡ true → (n : ℕ) × (e ≡ At n) × (z ≡ pos n)
  at_epoch (At n) z so = (n, refl, sym ((Decides-int_eq (pos n) z).0 so))
  at_epoch Away z never = absurd (true≢false (sym never))

  by_record : ¬ IsOfNobody g c → (own : Option Record) → finite.get g.records c.member ≡ own → CodesBy (refusal_of_member own c.epoch)
  by_record some None none = refused codes.UnknownMemberId (λ name x. unknown_member some none)
  by_record some (Some r) there = by (is_at r.epoch c.epoch) refl
    where
      by : (b : Bool) → is_at r.epoch c.epoch ≡ b → CodesBy (cond b None (Some codes.StaleMemberEpoch))
      by true so =
          let at = at_epoch r.epoch c.epoch so in
          taken (members (record { kept = r; is_kept = there; epoch = at.0; is_epoch = at.1; same = at.2 }))
      by false stale = refused codes.StaleMemberEpoch (λ name x. stale_epoch r some there (λ is. true≢false (sym (current is) ∙ stale)))
        where
          current : IsAtMemberEpoch g c → is_at r.epoch c.epoch ≡ true
          current is =
              let same : r ≡ is.kept = some_is r is.kept (sym there ∙ is.is_kept) in
              (λ i. is_at ((ap (λ (x : Record). x.epoch) same ∙ is.is_epoch) i) (is.same i)) ∙ (Decides-int_eq (pos is.epoch) (pos is.epoch)).1 refl

  negative : (z : ℤ) → int_lt z (pos 0) ≡ true → (n : ℕ) × (z ≡ negsuc n)
  negative (pos n) so = absurd (true≢false (sym so ∙ le-ltb n 0 (omega arith)))
  negative (negsuc n) so = (n, refl)

  by_nobody : (b d : Bool) → int_lt c.epoch (pos 0) ≡ b → (finite.len g.records == 0) ≡ d
      → CodesBy (cond (b && d) None (refusal_of_member (finite.get g.records c.member) c.epoch))
  by_nobody true true below none =
      let n = negative c.epoch below in
      taken (nobodys (record { below = n.0; epoch = n.1; nobody = (Decides-eqb (finite.len g.records) 0).0 none }))
  by_nobody true false below some =
      by_record (λ is. true≢false (sym ((Decides-eqb (finite.len g.records) 0).1 is.nobody) ∙ some)) (finite.get g.records c.member) refl
  by_nobody false d above none =
      by_record (λ is. true≢false (sym (ap (λ z. int_lt z (pos 0)) is.epoch) ∙ above)) (finite.get g.records c.member) refl

pub commits_are_answered_in_order : CommitsAreAnsweredInOrder
commits_are_answered_in_order g c image reply new step =
    subst (HasCommitCodes g c image) (sym step.answers)
    (by_nobody g c image (int_lt c.epoch (pos 0)) (finite.len g.records == 0) refl refl)
