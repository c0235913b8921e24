use Rattle.std.proofs.Common.{◌≡◌, ◌-◌}
use Rattle.flex_wire.specs.Composed.{elements_at}
use Rattle.flex_wire.proofs.Scan.{with_front}
use Rattle.topic_meta.specs.Images.{entries_of}
use Rattle.replica_entries.specs.Reading.{topic_at}
use Rattle.replica_entries.proofs.reading.count_of_topics.Given as goal

abbrev pub invariant-loop : goal.invariant-loop
invariant-loop l = with_front (entries_of l.topics.items) (elements_at topic_at (l.count - l.counter) l.rest) ≡ elements_at topic_at l.count l.bytes
