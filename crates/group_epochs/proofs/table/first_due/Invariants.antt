use Rattle.std.proofs.Common.{◌≡◌, ℕ, ◌<◌, ◌≤◌, false}
use Rattle.group_epochs.specs.Table.{is_due_at}
use Rattle.group_epochs.proofs.table.first_due.Given as goal

-- before it nobody is due
abbrev pub invariant-loop-rank : goal.invariant-loop-rank
invariant-loop-rank l = (k : ℕ) → l.from ≤ k → k < l.rank → is_due_at l.members.entries l.places.items l.clock k ≡ false
