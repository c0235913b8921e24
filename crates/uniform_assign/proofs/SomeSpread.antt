-- The rule has a result, whatever the topics and the former owners.
use Rattle.uniform_assign.specs.Existence.{UniformHasASpread}
use Rattle.uniform_assign.proofs.Filling.{fills_all}
use Rattle.uniform_assign.proofs.Keeping.{keeps}
use Rattle.uniform_assign.proofs.Levelling.{levels}
use Rattle.group_types.specs.Uniform.{in_partition_order}

pub uniform_has_a_spread : UniformHasASpread
uniform_has_a_spread view subs former apart =
    let (kept, is_kept) = keeps view subs former in
    let (filled, are_filled) = fills_all subs kept (in_partition_order view) in
    let (spread, levelled) = levels view subs apart filled in (
      spread,
      record {
        kept = kept;
        is_kept = is_kept;
        filled = filled;
        are_filled = are_filled;
        steps = levelled.steps;
        are_moves = levelled.are_moves;
        is_level = levelled.is_level;
      },
    )
