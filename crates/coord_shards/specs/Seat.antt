-- What contracts see of a seat.
use Rattle.std.specs.Prelude.{◌≡◌, ℕ, ◌*◌, ◌-◌, ◌^◌, List, [], sum, slice_index}
use Rattle.coord_shards.specs.declared.seat.SentEvent.{SentEvent}
use Rattle.coord_shards.specs.Limits.{MOST_SEATS}

-- its number, how many of its calls each shard took, and what was sent by these calls, where journals keep entries
pub record SeatState : Type 0 where
  pub number : ℕ
  pub by_shard : List ℕ
  pub sent : List SentEvent

-- the most calls of a seat (ours)
abbrev pub most_calls : ℕ
most_calls = 2 ^ 64 - 1

-- the most calls of all seats, and so the most entries of a shard
abbrev pub most_entries : ℕ
most_entries = MOST_SEATS * most_calls

-- how many of its calls were taken
abbrev pub calls_of : SeatState → ℕ
calls_of seat = sum seat.by_shard

-- a seat from which nothing was called
pub record IsNewSeat (number : ℕ) (seat : SeatState) : Type 0 where
  pub number_is : seat.number ≡ number
  pub by_shard : (shard : ℕ) → slice_index seat.by_shard shard ≡ 0
  pub calls : calls_of seat ≡ 0
  pub sent : seat.sent ≡ []
