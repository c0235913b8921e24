use Rattle.replica_snapshots.specs.Building.{CanAddGrant, with_grant}
use Rattle.replica_snapshots.specs.Spelling.{FitsGrant, grant_fields}
use Rattle.replica_snapshots.specs.Views.{unread}
use Rattle.replica_snapshots.proofs.Adding.{IsAdding}
use Rattle.replica_snapshots.proofs.reading.add_each_grant.Given as goal

abbrev pub invariant-loop : goal.invariant-loop
invariant-loop l = IsAdding FitsGrant grant_fields (CanAddGrant l.id) (with_grant l.id) l.count l.counter l.fn.group l.group (unread l.fn.cursor) (unread l.cursor)
