use Rattle.std.specs.Ordering.{on}
use Rattle.group_types.specs.Text.{text_cmp}
use Rattle.group_types.proofs.RisingLists.{RisesTo}
use Rattle.range_assign.specs.declared.spread.Share.{Share}
use Rattle.range_assign.proofs.spread.ids_rise.Given as goal

abbrev pub invariant-loop-at : goal.invariant-loop-at
invariant-loop-at l = RisesTo (on (λ (s : Share). s.id) text_cmp) l.shares l.at
