use Rattle.std.proofs.Common.{◌≡◌, ◌-◌}
use Rattle.replica_snapshots.specs.Reading.{partition_at, each_at}
use Rattle.replica_snapshots.specs.Views.{unread}
use Rattle.replica_snapshots.proofs.ReadingLaws.{with_front}
use Rattle.replica_snapshots.proofs.cursor.Cursor.each_partition.Given as goal

abbrev pub invariant-loop : goal.invariant-loop
invariant-loop l = with_front (l.parts.items) (each_at partition_at (l.count - l.counter) (unread l.self)) ≡ each_at partition_at l.count (unread l.fn.self)
