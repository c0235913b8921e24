-- What the desk of a worker does with frames: it calls shards from its seat, at the moments that were handed out to it.
use Rattle.std.specs.Prelude.{◌≡◌, ℕ, List}
use Rattle.group_types.specs.declared.stamp.Stamp.{Stamp}
use Rattle.coord_node.specs.Coordinator.{Answer}
use Rattle.coord_shards.specs.declared.event.Event.TheVariants.{Frame}
use Rattle.coord_shards.specs.Seat.{SeatState}
use Rattle.coord_shards.specs.Calls.{Shape, IsTaken}

module _ {M : Type 0} (hands : M → ℕ → M → Type 0) where
  -- A frame, at the moment that was handed out, is a call that its shard took, and the answer is the shard's.
  abbrev pub ShardsAnswer : Shape → SeatState → M → List ℕ → Stamp → Answer → SeatState → M → Type 0
  ShardsAnswer shape seat moments body stamp answer after later =
      (moment : ℕ) × hands moments moment later × IsTaken shape seat (Frame body stamp moment) answer after

  -- where memory is short the moment is used up, and the seat is as it was
  abbrev pub ShardsLack : SeatState → M → SeatState → M → Type 0
  ShardsLack seat moments after later = (moment : ℕ) × hands moments moment later × (after ≡ seat)
