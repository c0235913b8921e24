-- The events that come to a node, and what a node makes of a list of them.
use Rattle.std.specs.Prelude.{◌≡◌, ℕ, List, ◌++◌, map}
use Rattle.std.specs.List.{flat_map}
use Rattle.coord_node.specs.declared.event.NodeEvent.{NodeEvent}
use Rattle.coord_node.specs.declared.event.NodeEvent.TheVariants as events
use Rattle.coord_node.specs.Coordinator.{Coordinator, Event, Frame, Tick, Image, Answer, bytes_of}
use Rattle.coord_node.specs.Steps.{Run}

abbrev pub event_value : NodeEvent → Event
event_value (events.Frame body stamp moment) = Frame body.items stamp moment
event_value (events.Tick moment) = Tick moment
event_value (events.Image image) = Image image

-- The first events are answered, and the others are left: the node's state is that of the coordinator's run over
-- the first ones, and the bytes of the run's answers were appended.
pub record Runs (old : Coordinator) (events : List NodeEvent) (new : Coordinator) (left : List NodeEvent) (before after : List ℕ) : Type 0 where
  pub answered : List Event
  pub answers : List Answer
  pub all : map event_value events ≡ answered ++ map event_value left
  pub run : Run old answered answers new
  pub bytes : after ≡ before ++ flat_map bytes_of answers
