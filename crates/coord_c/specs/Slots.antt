-- What a call makes of what is in a slot.
use Rattle.std.specs.Prelude.{◌≡◌, Bool, is_some, true, false, not, Option, Some, None}
use Rattle.coord_replica.specs.Replicas.{ReplicaValue}
use Rattle.coord_c.specs.declared.embedded.Embedded.{Embedded}
use Rattle.coord_c.specs.declared.slot.Slot.{Slot}
use Rattle.coord_c.specs.Machines.{ForReplicas, is_replica}

-- what lies behind the slot's pointer: a coordinator or a replica, with its replies, topics and entry, or nothing
abbrev pub in_slot : Slot → Option Embedded
in_slot slot = slot.held.kept

-- the slot has a coordinator or a replica
abbrev pub IsFull : Slot → Type 0
IsFull slot = is_some (in_slot slot) ≡ true

abbrev pub is_coordinator_in : Option Embedded → Bool
is_coordinator_in None = false
is_coordinator_in (Some x) = not (is_replica x.machine)

abbrev pub is_replica_in : Option Embedded → Bool
is_replica_in None = false
is_replica_in (Some x) = is_replica x.machine

-- the slot has a coordinator by itself
abbrev pub HasCoordinator : Slot → Type 0
HasCoordinator slot = is_coordinator_in (in_slot slot) ≡ true

-- the slot has a replica
abbrev pub HasReplica : Slot → Type 0
HasReplica slot = is_replica_in (in_slot slot) ≡ true

-- what is said of what the slot had, and of what it has
abbrev pub Becomes : Slot → Slot → (Embedded → Embedded → Type 0) → Type 0
Becomes old new Said = (x y : Embedded) → in_slot old ≡ Some x → in_slot new ≡ Some y → Said x y

-- the same where it is a replica
abbrev pub BecomesReplica : Slot → Slot → (Embedded → Embedded → ReplicaValue → ReplicaValue → Type 0) → Type 0
BecomesReplica old new Said = Becomes old new (λ x y. ForReplicas x.machine y.machine (Said x y))

-- what is said of what the slot has
abbrev pub Has : Slot → (Embedded → Type 0) → Type 0
Has slot Said = (x : Embedded) → in_slot slot ≡ Some x → Said x
