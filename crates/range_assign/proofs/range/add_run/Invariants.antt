use Rattle.group_types.specs.Sets.{of_list}
use Rattle.range_assign.specs.Turns.{AddsRun}
use Rattle.range_assign.proofs.range.add_run.Given as goal

-- the partitions up to this index are in
abbrev pub invariant-loop-index : goal.invariant-loop-index
invariant-loop-index l = AddsRun (of_list l.initial.parts.items) (of_list l.parts.items) l.topic l.first l.index
