use Rattle.std.proofs.Common.{◌≡◌}
use Rattle.std.specs.Option.{option_copied}
use Rattle.group_epochs.specs.Counts.{with_counted}
use Rattle.group_epochs.proofs.counts.add_counted.Given as goal

-- with the names that are left they are all
abbrev pub invariant-loop-name : goal.invariant-loop-name
invariant-loop-name l = with_counted (option_copied l.former) l.names l.name-iterator ≡ with_counted (option_copied l.former) l.initial.names l.counts.entries
