use Rattle.replica_snapshots.specs.Building.{CanAddFormer, with_former}
use Rattle.replica_snapshots.specs.Spelling.{FitsFormer, former_fields}
use Rattle.replica_snapshots.specs.Views.{unread}
use Rattle.replica_snapshots.proofs.Adding.{IsAdding}
use Rattle.replica_snapshots.proofs.reading.add_each_former.Given as goal

abbrev pub invariant-loop : goal.invariant-loop
invariant-loop l = IsAdding FitsFormer former_fields CanAddFormer with_former l.count l.counter l.fn.group l.group (unread l.fn.cursor) (unread l.cursor)
