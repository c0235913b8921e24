use Rattle.std.proofs.Common.{◌≡◌, ℕ, ◌<◌, Some}
use Rattle.group_types.specs.Text.{Text}
use Rattle.group_types.specs.Group.{Record}
use Rattle.group_epochs.specs.Table.{member_at}
use Rattle.group_core.specs.GroupView.{group_of}
use Rattle.group_core.specs.Restoring.{MemberFits}
use Rattle.group_core.proofs.fitting.members_fit.Given as goal

-- the members before the rank fit
abbrev pub invariant-loop-rank : goal.invariant-loop-rank
invariant-loop-rank l = (k : ℕ) → k < l.rank → (e : Text × Record) → member_at l.state.records.records k ≡ Some e → MemberFits (group_of l.state) e.0 e.1
