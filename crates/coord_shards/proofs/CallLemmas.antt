-- What a call comes to, by what its shard did.
use Rattle.std.proofs.Common.{◌≡◌, ℕ, List, Result, Ok, Err, IfOk, OnOk, subst}
use Rattle.coord_shards.specs.declared.fault.CallFault.{CallFault}
use Rattle.coord_node.specs.Coordinator as node
use Rattle.coord_shards.specs.declared.shard.JournalEntry.{JournalEntry}
use Rattle.coord_shards.specs.declared.incoming.Effect.{Effect}
use Rattle.coord_shards.specs.Home.{IsHome}
use Rattle.coord_shards.specs.declared.event.Event.{Event}
use Rattle.coord_shards.specs.Events.{Gives}
use Rattle.coord_shards.specs.Shard.{ShardState, kept_with}
use Rattle.coord_shards.specs.Replay.{Replay, RunsTo, GoesOn}
use Rattle.coord_shards.specs.Calls.{Shape, IsAnsweredInARun, IsTaken, Rises}
use Rattle.coord_shards.specs.Seat.{SeatState}

-- a shard that is its entries' replay answers in a run as it goes on
pub InARun-GoesOn : (shape : Shape) (home : ℕ) (s : ShardState) (e : JournalEntry) (given : node.Answer) (new : ShardState)
    → (s.number ≡ home) × (s.shards ≡ shape.shards) × (s.salt ≡ shape.salt) → Replay s → GoesOn s e given new
    → IsAnsweredInARun shape home e.event given
InARun-GoesOn shape home s e given new itself is goes =
    let run : RunsTo shape.shards shape.salt home is.entries s.present =
    subst (λ (it : ℕ × ℕ × ℕ). RunsTo it.1 it.2 it.0 is.entries s.present) (λ i. (itself.0 i, itself.1 i, itself.2 i)) is.run in
    record { entries = is.entries; before = s.present; after = new.present; run = run; step = goes.step }

-- what a shard took, and what was noted of it before, is a call that was taken
pub IsTaken-rises : (shape : Shape) (old noted new : SeatState) (event : Event) (home : ℕ) (before after : List ℕ) (result : Result Effect CallFault)
    → noted ≡ record old { sent = kept_with shape.cap old.sent (record { shard = home; event = event }) } → IsHome shape.shards event home
    → IfOk result (λ outcome. Gives outcome before after (λ given. IsAnsweredInARun shape home event given)) → OnOk result (Rises noted home new)
    → IfOk result (λ outcome. Gives outcome before after (λ given. IsTaken shape old event given new))
IsTaken-rises shape old noted new event home before after (Ok outcome) is is_home (given, says, answered) rises =
    let rises_from = subst (λ (seat : SeatState). Rises seat home new) is rises in
    (given, says, record { home = home; is_home = is_home; answered = answered; rises = rises_from })
IsTaken-rises shape old noted new event home before after (Err error) is is_home answered rises = tt
