-- What a call comes to.
use Rattle.std.proofs.Common.{◌≡◌, ◌+◌, ℕ, suc, arith, refl, subst}
use Rattle.coord_node.specs.Coordinator as node
use Rattle.coord_shards.specs.declared.event.Event.{Event}
use Rattle.coord_shards.specs.declared.event.Answer.{Answer}
use Rattle.coord_shards.specs.declared.event.Answer.TheVariants.{Replied, Closes, Done, Refused}
use Rattle.coord_shards.specs.Seat.{SeatState}
use Rattle.coord_shards.specs.Calls.{Shape, SeatCalls, IsTaken}
use Rattle.coord_server.specs.Rounds.{CallsEach, TellsEach}

-- a call that isn't refused was taken
pub taken_unless_refused : (shape : Shape) (seat : SeatState) (event : Event) (answer : Answer) (after : SeatState)
    → SeatCalls shape seat event answer after → ¬ (answer ≡ Refused) → (given : node.Answer) × IsTaken shape seat event given after
taken_unless_refused shape seat event (Replied bytes) after taken other = (node.Replied bytes, taken)
taken_unless_refused shape seat event Closes after taken other = (node.Closes, taken)
taken_unless_refused shape seat event (Done removed) after taken other = (node.Done removed, taken)
taken_unless_refused shape seat event Refused after same other = absurd (other refl)

-- a call that is refused leaves the seat as it was
pub same_where_refused : (shape : Shape) (seat : SeatState) (event : Event) (answer : Answer) (after : SeatState)
    → SeatCalls shape seat event answer after → answer ≡ Refused → after ≡ seat
same_where_refused shape seat event answer after called refused =
    subst (λ given. SeatCalls shape seat event given after) refused called

-- before the first shard nothing is called
pub none_called : (shape : Shape) (event : ℕ → Event) (seat : SeatState) → CallsEach shape event 0 seat seat
unfolding CallsEach
none_called shape event seat = refl

-- one call more, of the shard that follows
pub next_called : (shape here : Shape) (event : ℕ → Event) (shard : ℕ) (seat between after : SeatState) (answer : Answer)
    → here ≡ shape → CallsEach shape event shard seat between → SeatCalls here between (event shard) answer after
    → CallsEach shape event (shard + 1) seat after
unfolding CallsEach
next_called shape here event shard seat between after answer same before called =
    let more : suc shard ≡ shard + 1 = omega arith in
    subst (λ n. CallsEach shape event n seat after) more
    (between, answer, before, subst (λ it. SeatCalls it between (event shard) answer after) same called)

-- before the first shard nothing is told
pub none_told : (shape : Shape) (event : ℕ → Event) (seat : SeatState) → TellsEach shape event 0 seat seat
unfolding TellsEach
none_told shape event seat = refl

-- one shard more that is told
pub next_told : (shape here : Shape) (event : ℕ → Event) (shard : ℕ) (seat between after : SeatState) (given : node.Answer)
    → here ≡ shape → TellsEach shape event shard seat between → IsTaken here between (event shard) given after
    → TellsEach shape event (shard + 1) seat after
unfolding TellsEach
next_told shape here event shard seat between after given same before taken =
    let more : suc shard ≡ shard + 1 = omega arith in
    subst (λ n. TellsEach shape event n seat after) more
    (between, given, before, subst (λ it. IsTaken it between (event shard) given after) same taken)
