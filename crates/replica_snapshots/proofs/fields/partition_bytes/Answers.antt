use Rattle.std.proofs.Common.{[], ◌∷◌, refl, ◌∙◌, ap}
use Rattle.std.specs.Int.{w32}
use Rattle.std.proofs.lemmas.Int.{to_z-of_z}
use Rattle.flex_wire.specs.Spelling.{int32, signed}
use Rattle.replica_snapshots.proofs.Arrays.{two_parts}
use Rattle.replica_snapshots.proofs.fields.partition_bytes.Goals as goal

pub returns-clause-bytes : goal.returns-clause-bytes
unfolding signed
returns-clause-bytes c =
    two_parts c.copy_from_slice.new.self c.copy_from_slice-2.new.self (0 ∷ 0 ∷ 0 ∷ 0 ∷ []) 16 4
    (c.copy_from_slice.ensures.after ∙ c.as_bytes.ensures)
    (c.copy_from_slice-2.ensures.after ∙ (c.to_be_bytes.ensures ∙ ap int32 (to_z-of_z w32 c.args.index c.ranges.index)))
    c.copy_from_slice.ensures.len refl
