-- What a slot is for: a coordinator by itself, or a replica.
use Rattle.std.specs.Prelude.{Bool, true, false}
use Rattle.coord_node.specs.Coordinator.{Coordinator}
use Rattle.coord_node.specs.Nodes as nodes
use Rattle.coord_node.specs.Nodes.{NodeValue}
use Rattle.coord_replica.specs.Replicas.{ReplicaValue}
use Rattle.coord_c.specs.declared.machine.Machine.{Machine}
use Rattle.coord_c.specs.declared.machine.Machine.TheVariants as machines

-- the node of the coordinator by itself, or of the replica
abbrev pub node_of : Machine → NodeValue
node_of (machines.Coordinator node) = node
node_of (machines.Replica replica) = replica.node

-- the coordinator by itself, or that of the replica
abbrev pub coordinator_of : Machine → Coordinator
coordinator_of machine = nodes.coordinator_of (node_of machine)

abbrev pub is_replica : Machine → Bool
is_replica (machines.Coordinator node) = false
is_replica (machines.Replica replica) = true

-- what is said of a replica before and after a call, where there is one
abbrev pub ForReplicas : Machine → Machine → (ReplicaValue → ReplicaValue → Type 0) → Type 0
ForReplicas (machines.Replica r) (machines.Replica q) Said = Said r q
ForReplicas (machines.Replica r) (machines.Coordinator d) Said = Unit {0}
ForReplicas (machines.Coordinator c) q Said = Unit {0}
