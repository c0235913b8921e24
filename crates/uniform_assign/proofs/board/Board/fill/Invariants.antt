use Rattle.std.proofs.Common.{take}
use Rattle.group_types.specs.Uniform.{AreFilled, in_partition_order}
use Rattle.uniform_assign.specs.Drafts.{IsDraft, drawn_on}
use Rattle.uniform_assign.specs.CountSets.{IsSetOf}
use Rattle.uniform_assign.proofs.board.Board.fill.Given as goal
use Rattle.uniform_assign.specs.Boards.{members_on}

abbrev pub invariant-loop-at : goal.invariant-loop-at
invariant-loop-at l =
    IsDraft l.self l.draft
    × AreFilled (members_on l.self) (drawn_on l.self l.initial.draft.owners.items) (take l.at (in_partition_order (l.self).view.now)) (drawn_on l.self l.draft.owners.items)
    × IsSetOf l.self l.draft (l.queue).class (l.queue).counts
