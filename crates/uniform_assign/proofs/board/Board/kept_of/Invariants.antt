use Rattle.group_types.specs.Uniform.{in_partition_order}
use Rattle.uniform_assign.specs.Drafts.{IsDraft}
use Rattle.uniform_assign.proofs.Kept.{AreKeptTo}
use Rattle.uniform_assign.proofs.board.Board.kept_of.Given as goal
use Rattle.uniform_assign.specs.Boards.{AreKnown, members_on}

abbrev pub invariant-loop-at : goal.invariant-loop-at
invariant-loop-at l =
    IsDraft l.self l.draft × AreKeptTo l.former (members_on l.self) (in_partition_order (l.self).view.now) l.at l.draft.owners.items
    × AreKnown l.self l.known.items
