use Rattle.replica_snapshots.specs.Nodes.{sections_of}
use Rattle.replica_snapshots.specs.Views.{listed_node}
use Rattle.replica_snapshots.proofs.SectionLaws.{ArePut}
use Rattle.replica_snapshots.proofs.node.Sections.put.Given as goal

-- the sections before the next are put
abbrev pub invariant-loop-next : goal.invariant-loop-next
invariant-loop-next l = ArePut l.fn.out.items l.out.items (sections_of (listed_node l.self)) l.from l.size l.next
