-- The home of an event: the number of the one shard that it is for (ours).
use Rattle.std.specs.Prelude.{◌≡◌, ◌⊎◌, ◌%◌, ℕ, List, sum, nat_lt, if◌then◌else◌}
use Rattle.kip_msgs.specs.Values.{RequestValue}
use Rattle.coord_node.specs.Steps.{IsRequest}
use Rattle.coord_node.specs.Parsed.{group_named}
use Rattle.coord_shards.specs.declared.event.Event.{Event}
use Rattle.coord_shards.specs.declared.event.Event.TheVariants.{Frame, Tick, Image}

-- a group's shard: the sum of its id's bytes, modulo the number of shards
abbrev pub shard_of_group : ℕ → List ℕ → ℕ
shard_of_group shards group = sum group % shards

-- a shard by its number: one that isn't there counts as shard 0
abbrev pub shard_numbered : ℕ → ℕ → ℕ
shard_numbered shards number = if nat_lt number shards then number else 0

-- Of `shards` shards, the event's is the one with this number. A frame's is that of its group; shard 0 is that of a body that is no
-- request, one of a refused length among them.
abbrev pub IsHome : ℕ → Event → ℕ → Type 0
IsHome shards (Frame body stamp moment) number =
    ((v : RequestValue) × IsRequest v body × (number ≡ shard_of_group shards (group_named v)))
    ⊎ (((v : RequestValue) → ¬ IsRequest v body) × (number ≡ 0))
IsHome shards (Tick shard moment) number = number ≡ shard_numbered shards shard
IsHome shards (Image shard image) number = number ≡ shard_numbered shards shard

-- an event has one home
abbrev pub OneHome : Type 0
OneHome = (shards : ℕ) (event : Event) (one other : ℕ) → IsHome shards event one → IsHome shards event other → one ≡ other
