use Rattle.group_types.specs.Uniform.{in_partition_order}
use Rattle.uniform_assign.specs.Hands.{hands_in}
use Rattle.uniform_assign.proofs.Dealt.{AreDealtTo}
use Rattle.uniform_assign.proofs.board.Board.shares.Given as goal
use Rattle.uniform_assign.specs.Boards.{members_on}

abbrev pub invariant-loop-at : goal.invariant-loop-at
invariant-loop-at l = AreDealtTo (in_partition_order (l.self).view.now) (members_on l.self) l.draft.owners.items l.at (hands_in l.hands.items)
