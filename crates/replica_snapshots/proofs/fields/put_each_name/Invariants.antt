use Rattle.flex_wire.specs.Spelling.{compact_string, FitsText}
use Rattle.group_types.specs.Sets.{in_order}
use Rattle.group_types.proofs.NameLemmas.{texts_of}
use Rattle.replica_snapshots.proofs.Puts.{AreLeft}
use Rattle.replica_snapshots.proofs.fields.put_each_name.Given as goal

abbrev pub invariant-loop-name : goal.invariant-loop-name
invariant-loop-name l = AreLeft FitsText FitsText compact_string l.fn.out.items l.out.items (in_order l.names) (texts_of l.name-iterator)
