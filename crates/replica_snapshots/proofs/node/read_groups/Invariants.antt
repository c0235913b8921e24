use Rattle.coord_node.specs.Nodes.{with_named}
use Rattle.replica_snapshots.specs.Groups.{FitsNamed, named_fields}
use Rattle.replica_snapshots.specs.Restoring.{CanKeep, ReadsGroups}
use Rattle.replica_snapshots.proofs.Adding.{IsAdding}
use Rattle.replica_snapshots.proofs.node.read_groups.Given as goal

-- so many groups are read
abbrev pub invariant-loop : goal.invariant-loop
invariant-loop l =
    ReadsGroups l.counter l.bytes l.rest l.fn.node l.node
    × IsAdding FitsNamed named_fields CanKeep with_named l.count l.counter l.fn.node l.node l.bytes l.rest
