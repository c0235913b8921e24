-- What a call of a seat comes to.
use Rattle.std.specs.Prelude.{◌≡◌, ◌+◌, ℕ, List}
use Rattle.coord_node.specs.Coordinator as node
use Rattle.coord_node.specs.Steps.{Step}
use Rattle.coord_shards.specs.declared.shard.JournalEntry.{JournalEntry}
use Rattle.coord_shards.specs.declared.event.Event.{Event}
use Rattle.coord_shards.specs.declared.event.Answer.{Answer}
use Rattle.coord_shards.specs.Events.{node_event, UnlessRefused}
use Rattle.coord_shards.specs.Home.{IsHome}
use Rattle.coord_shards.specs.Shard.{kept_with, one_more}
use Rattle.coord_shards.specs.Replay.{RunsTo}
use Rattle.coord_shards.specs.Seat.{SeatState, calls_of}

-- how many shards there are, the salt of their ids, and how many entries each journal may keep
pub record Shape : Type 0 where
  pub shards : ℕ
  pub salt : ℕ
  pub cap : ℕ

-- The answer to an event is the machine's in a state that some run from the opening state reaches, over entries of one
-- home.
pub record IsAnsweredInARun (shape : Shape) (home : ℕ) (event : Event) (given : node.Answer) : Type 0 where
  pub entries : List JournalEntry
  pub before : node.Coordinator
  pub after : node.Coordinator
  pub run : RunsTo shape.shards shape.salt home entries before
  pub step : Step before (node_event event) given after

-- of the seat's calls at a shard, and of all its calls, there is one more
abbrev pub Rises : SeatState → ℕ → SeatState → Type 0
Rises old home new = (new ≡ record old { by_shard = one_more old.by_shard home }) × (calls_of new ≡ calls_of old + 1)

-- A call that was taken, at the event's home: the event is the last that was sent, and of the calls there, and of all calls
-- of the seat, there is one more.
pub record IsTaken (shape : Shape) (old : SeatState) (event : Event) (given : node.Answer) (new : SeatState) : Type 0 where
  pub home : ℕ
  pub is_home : IsHome shape.shards event home
  pub answered : IsAnsweredInARun shape home event given
  pub rises : Rises (record old { sent = kept_with shape.cap old.sent (record { shard = home; event = event }) }) home new

-- what a call comes to, by its answer
abbrev pub SeatCalls : Shape → SeatState → Event → Answer → SeatState → Type 0
SeatCalls shape old event answer new = UnlessRefused answer old new (λ given. IsTaken shape old event given new)
