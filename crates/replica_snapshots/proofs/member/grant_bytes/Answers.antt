use Rattle.std.proofs.Common.{[], ◌∷◌, refl, ◌∙◌, ap}
use Rattle.std.specs.Int.{w32, to_be_bytes}
use Rattle.flex_wire.specs.Spelling.{signed}
use Rattle.replica_snapshots.proofs.Arrays.{two_parts}
use Rattle.replica_snapshots.proofs.member.grant_bytes.Goals as goal

pub returns-clause-bytes : goal.returns-clause-bytes
unfolding signed
returns-clause-bytes c =
    two_parts c.copy_from_slice.new.self c.copy_from_slice-2.new.self (0 ∷ 0 ∷ 0 ∷ 0 ∷ []) 20 4 c.copy_from_slice.ensures.after
    (c.copy_from_slice-2.ensures.after ∙ (c.to_be_bytes.ensures ∙ ap (to_be_bytes w32) c.as_u32.ensures.value)) c.copy_from_slice.ensures.len refl
