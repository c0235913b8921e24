use Rattle.std.proofs.Common.{◌≡◌, ◌+◌, length}
use Rattle.group_types.specs.Tick.{due, without_members}
use Rattle.group_reconcile.specs.Offers.{KeepsSince}
use Rattle.group_core.specs.GroupView.{group_of}
use Rattle.group_core.specs.Steady.{AreMarked}
use Rattle.group_core.proofs.tick.remove_due.Given as goal

abbrev pub invariant-loop-rank : goal.invariant-loop-rank
invariant-loop-rank l =
    record {
      rest : without_members (group_of l.state) (due (group_of l.state)) ≡ without_members (group_of l.fn.state) (due (group_of l.fn.state));
      count : l.removed + length (due (group_of l.state)) ≡ length (due (group_of l.fn.state));
      marks : AreMarked (group_of l.state) l.state.records.marks;
      since : KeepsSince l.fn.state.grants l.state.grants;
    }

abbrev pub decreases-loop-rank : goal.decreases-loop-rank
decreases-loop-rank l = length (due (group_of l.state))
