use Rattle.std.proofs.Common.{◌≡◌, ◌-◌}
use Rattle.topic_meta.specs.Images.{entries_of}
use Rattle.replica_snapshots.specs.Reading.{entry_at, each_at}
use Rattle.replica_snapshots.specs.Views.{unread}
use Rattle.replica_snapshots.proofs.ReadingLaws.{with_front}
use Rattle.replica_snapshots.proofs.cursor.Cursor.each_topic.Given as goal

abbrev pub invariant-loop : goal.invariant-loop
invariant-loop l = with_front (entries_of l.topics.items) (each_at entry_at (l.count - l.counter) (unread l.self)) ≡ each_at entry_at l.count (unread l.fn.self)
