use Rattle.replica_snapshots.specs.Building.{CanAddOffset, with_committed}
use Rattle.replica_snapshots.specs.Spelling.{FitsOffset, offset_fields}
use Rattle.replica_snapshots.specs.Views.{unread}
use Rattle.replica_snapshots.proofs.Adding.{IsAdding}
use Rattle.replica_snapshots.proofs.reading.add_each_offset.Given as goal

abbrev pub invariant-loop : goal.invariant-loop
invariant-loop l = IsAdding FitsOffset offset_fields CanAddOffset with_committed l.count l.counter l.fn.group l.group (unread l.fn.cursor) (unread l.cursor)
