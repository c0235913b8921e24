use Rattle.std.proofs.Common.{length}
use Rattle.coord_node.specs.Events.{Runs}
use Rattle.coord_node.specs.Nodes.{coordinator_of}
use Rattle.coord_node.proofs.node.Node.run.Given as goal

abbrev pub invariant-loop-event : goal.invariant-loop-event
invariant-loop-event l =
    Runs (coordinator_of l.initial.self) l.initial.events.items (coordinator_of l.self) l.events.items l.initial.out.items l.out.items

abbrev pub decreases-loop-event : goal.decreases-loop-event
decreases-loop-event l = length l.events.items
