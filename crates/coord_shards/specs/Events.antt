-- The events and answers of shards, as those of a node.
use Rattle.std.specs.Prelude.{◌≡◌, List, ℕ, ◌++◌, Option, Some, None, MatchOption}
use Rattle.coord_node.specs.Answers.{IsAnswered}
use Rattle.coord_node.specs.Coordinator as node
use Rattle.coord_shards.specs.declared.event.Event.{Event}
use Rattle.coord_shards.specs.declared.event.Event.TheVariants as events
use Rattle.coord_shards.specs.declared.event.Answer.{Answer}
use Rattle.coord_shards.specs.declared.event.Answer.TheVariants as answers
use Rattle.coord_shards.specs.declared.incoming.Incoming.{Incoming}
use Rattle.coord_shards.specs.declared.incoming.Incoming.TheVariants as lent
use Rattle.coord_shards.specs.declared.incoming.Effect.{Effect}
use Rattle.coord_shards.specs.declared.incoming.Effect.TheVariants as effects

-- what comes to the node of the shard that an event is for
abbrev pub node_event : Event → node.Event
node_event (events.Frame body stamp moment) = node.Frame body stamp moment
node_event (events.Tick shard moment) = node.Tick moment
node_event (events.Image shard image) = node.Image image

-- the node's answer that was passed on: none where the event was refused
abbrev pub node_answer : Answer → Option node.Answer
node_answer (answers.Replied bytes) = Some (node.Replied bytes)
node_answer answers.Closes = Some node.Closes
node_answer (answers.Done removed) = Some (node.Done removed)
node_answer answers.Refused = None

-- where the event was refused nothing changes, and otherwise this holds of the node's answer
abbrev pub UnlessRefused : {State : Type 0} → Answer → State → State → (node.Answer → Type 0) → Type 0
UnlessRefused answer old new Holds = MatchOption (node_answer answer) (new ≡ old) Holds

-- the event that is on its way
abbrev pub event_of : Incoming → Event
event_of (lent.Frame body stamp moment) = events.Frame body stamp moment
event_of (lent.Tick shard moment) = events.Tick shard moment
event_of (lent.Image shard image) = events.Image shard image.now

-- what became of an event, with the bytes that were appended, is the node's answer
abbrev pub IsGiven : Effect → List ℕ → List ℕ → node.Answer → Type 0
IsGiven (effects.Answered kind) before after given = IsAnswered kind given × (after ≡ before ++ node.bytes_of given)
IsGiven (effects.Done removed) before after given = (given ≡ node.Done removed) × (after ≡ before)

-- what became of an event, with the bytes that were appended, is a node's answer of which this holds
abbrev pub Gives : Effect → List ℕ → List ℕ → (node.Answer → Type 0) → Type 0
Gives outcome before after Holds = (given : node.Answer) × IsGiven outcome before after given × Holds given
