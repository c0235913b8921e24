use Rattle.std.proofs.Common.{◌≡◌}
use Rattle.std.specs.List.{list_any}
use Rattle.std.specs.Option.{option_copied}
use Rattle.std.specs.Slice.Iter.{iter_rest}
use Rattle.group_types.specs.Sets.{in_order}
use Rattle.group_reconcile.specs.Settling.{is_kept}
use Rattle.group_reconcile.proofs.settle.may_move.Given as goal

-- where something is kept, it is among what is left
abbrev pub invariant-loop-p : goal.invariant-loop-p
invariant-loop-p l =
    list_any (is_kept l.target.partitions (option_copied l.owned)) (iter_rest l.p-iterator) ≡ list_any (is_kept l.target.partitions (option_copied l.owned)) (in_order l.parts)
