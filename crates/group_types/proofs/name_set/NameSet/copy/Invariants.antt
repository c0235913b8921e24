use Rattle.std.proofs.Common.{◌≡◌}
use Rattle.group_types.proofs.NameLemmas.{texts_of}
use Rattle.group_types.proofs.ListSets.{with_all}
use Rattle.group_types.proofs.name_set.NameSet.copy.Given as goal

-- the copy with what is left is the set
abbrev pub invariant-loop-name : goal.invariant-loop-name
invariant-loop-name l = with_all l.copy (texts_of l.name-iterator) ≡ l.self
