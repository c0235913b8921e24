use Rattle.group_types.proofs.NameLemmas.{texts_of}
use Rattle.range_assign.proofs.Marked.{AreMarked}
use Rattle.range_assign.proofs.marks.mark_by_names.Given as goal

abbrev pub invariant-loop-name : goal.invariant-loop-name
invariant-loop-name l = AreMarked l.topics l.names l.marks.items (texts_of l.name-iterator)
