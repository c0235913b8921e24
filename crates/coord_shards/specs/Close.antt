-- What the shards and the seats come to at the end.
use Rattle.std.specs.Prelude.{◌≡◌, ◌==◌, ◌<◌, ℕ, List, map, sum, slice_index}
use Rattle.std.specs.List.{filter}
use Rattle.coord_shards.specs.declared.shard.JournalEntry.{JournalEntry}
use Rattle.coord_shards.specs.declared.seat.SentEvent.{SentEvent}
use Rattle.coord_shards.specs.declared.event.Event.{Event}
use Rattle.coord_shards.specs.Shard.{ShardState}
use Rattle.coord_shards.specs.Seat.{SeatState}

-- the events that came from a seat, in their order
abbrev pub events_from : ℕ → List JournalEntry → List Event
events_from seat entries = map (λ e. e.event) (filter (λ e. e.seat == seat) entries)

-- the events that went to a shard, in their order
abbrev pub events_to : ℕ → List SentEvent → List Event
events_to shard sent = map (λ s. s.event) (filter (λ s. s.shard == shard) sent)

-- A seat's count in a shard is its calls there, and, where journals keep entries, its entries there are what it sent there.
pub record Agrees (cap : ℕ) (shard : ShardState) (seat : SeatState) : Type 0 where
  pub counts : slice_index shard.counts seat.number ≡ slice_index seat.by_shard shard.number
  pub events : 0 < cap → events_from seat.number shard.kept ≡ events_to shard.number seat.sent

-- how many entries were made in a shard
abbrev pub entries_of : ShardState → ℕ
entries_of s = sum s.counts
