use Rattle.std.proofs.Common.{take}
use Rattle.std.specs.List.{flat_map}
use Rattle.flex_wire.proofs.Puts.{HasPut}
use Rattle.topic_meta.specs.Images.{entries_of}
use Rattle.replica_entries.specs.Spelling.{topic_fields}
use Rattle.replica_entries.proofs.writing.put_each.Given as goal

abbrev pub invariant-loop-topic : goal.invariant-loop-topic
invariant-loop-topic l = HasPut l.fn.out l.out (flat_map topic_fields (entries_of (take l.topic-index l.topics)))
