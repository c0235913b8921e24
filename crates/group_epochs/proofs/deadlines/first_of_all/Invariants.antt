use Rattle.std.proofs.Common.{◌≡◌}
use Rattle.group_epochs.specs.Deadlines.{first_of_all}
use Rattle.group_epochs.proofs.deadlines.first_of_all.Given as goal

-- with the deadlines that are left it is the first of all
abbrev pub invariant-loop-entry : goal.invariant-loop-entry
invariant-loop-entry l = first_of_all l.first l.entry-iterator ≡ first_of_all l.initial.first l.members.entries
