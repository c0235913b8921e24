-- That whatever comes to a node has an answer.
use Rattle.std.specs.Prelude.{ℕ, List, All}
use Rattle.flex_wire.specs.Laws.{AreBytes}
use Rattle.group_types.specs.Images.{AreImageTopics}
use Rattle.coord_node.specs.Coordinator.{Coordinator, Event, Frame, Tick, Image, Answer, opening}
use Rattle.coord_node.specs.Laws.{IsServing}
use Rattle.coord_node.specs.Steps.{Run, Step}

-- what can come to a node: bodies whose numbers are bytes, moments, and images
abbrev pub IsComing : Event → Type 0
IsComing (Frame body stamp moment) = AreBytes body
IsComing (Tick moment) = Unit {0}
IsComing (Image topics) = AreImageTopics topics

-- an event is answered by a serving coordinator, and leaves one
abbrev pub EventsAreAnswered : Type 0
EventsAreAnswered =
    (c : Coordinator) (event : Event) → IsServing c → IsComing event → (answer : Answer) × (new : Coordinator) × Step c event answer new × IsServing new

-- whatever comes to a coordinator since its opening, each event has its answer
abbrev pub RunsAreAnswered : Type 0
RunsAreAnswered = (salt : ℕ) (events : List Event) → All IsComing events → (answers : List Answer) × (new : Coordinator) × Run (opening salt) events answers new

-- whatever came to a coordinator since its opening, it serves
abbrev pub CoordinatorsServe : Type 0
CoordinatorsServe =
    (salt : ℕ) (events : List Event) (answers : List Answer) (c : Coordinator) → Run (opening salt) events answers c → IsServing c
