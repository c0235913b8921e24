use Rattle.std.proofs.Common.{◌≡◌}
use Rattle.group_types.specs.Sets.{in_order}
use Rattle.group_types.proofs.NameLemmas.{texts_of}
use Rattle.group_types.proofs.ListSets.{with_all}
use Rattle.group_types.proofs.name_set.NameSet.add_each.Given as goal

-- the set with what is left is the first one with all
abbrev pub invariant-loop-name : goal.invariant-loop-name
invariant-loop-name l = with_all l.self (texts_of l.name-iterator) ≡ with_all l.initial.self (in_order l.other)
