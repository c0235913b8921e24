-- What it comes to that the first shards are called, one after the other.
use Rattle.std.specs.Prelude.{◌≡◌, ℕ, zero, suc}
use Rattle.coord_node.specs.Coordinator as node
use Rattle.coord_shards.specs.declared.event.Event.{Event}
use Rattle.coord_shards.specs.declared.event.Answer.{Answer}
use Rattle.coord_shards.specs.Seat.{SeatState}
use Rattle.coord_shards.specs.Calls.{Shape, SeatCalls, IsTaken}

-- an event for each of a number of shards, in their order, whatever they answer
unfoldable pub CallsEach : Shape → (ℕ → Event) → ℕ → SeatState → SeatState → Type 0
CallsEach shape event zero seat after = after ≡ seat
CallsEach shape event (suc shard) seat after =
    (between : SeatState) × (answer : Answer) × CallsEach shape event shard seat between
    × SeatCalls shape between (event shard) answer after

-- an event for each of a number of shards, in their order, which each of them took
unfoldable pub TellsEach : Shape → (ℕ → Event) → ℕ → SeatState → SeatState → Type 0
TellsEach shape event zero seat after = after ≡ seat
TellsEach shape event (suc shard) seat after =
    (between : SeatState) × (answer : node.Answer) × TellsEach shape event shard seat between
    × IsTaken shape between (event shard) answer after
