use Rattle.std.proofs.Common.{◌≡◌, ◌++◌}
use Rattle.group_types.specs.Sets.{in_order}
use Rattle.group_types.proofs.NameLemmas.{texts_of}
use Rattle.group_epochs.proofs.names.NewNames.of.Given as goal

-- the texts with those that are left are the names in order
abbrev pub invariant-loop-name : goal.invariant-loop-name
invariant-loop-name l = texts_of l.texts.items ++ texts_of l.name-iterator ≡ in_order l.names
