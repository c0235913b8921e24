-- Runs of a coordinator whose node can be written: what comes to it, and what it comes to.
use Rattle.std.specs.Prelude.{◌≡◌, Some}
use Rattle.std.specs.FinMap as finite
use Rattle.flex_wire.specs.Spelling.{FitsCount, FitsText}
use Rattle.group_types.specs.Group.{Group}
use Rattle.group_types.specs.Text.{Text}
use Rattle.group_types.specs.Topics.{Topic, Topics}
use Rattle.coord_node.specs.Coordinator.{Coordinator, Event, Frame, Image, Tick}
use Rattle.replica_snapshots.specs.Spelling.{FitsNumber, FitsStamp}

-- The names of topics are texts that fit.
abbrev pub HaveNames : Topics → Type 0
HaveNames topics = (name : Text) (t : Topic) → finite.get topics name ≡ Some t → FitsText name

-- An event whose numbers are of 64 bits, as the code's are by their types. An image's topics have names that fit: the code's images
-- may have longer ones, but not where they come in the entry of a log, which has them as texts.
abbrev pub FitsEvent : Event → Type 0
FitsEvent (Frame body stamp moment) = FitsStamp stamp × FitsNumber moment
FitsEvent (Tick moment) = FitsNumber moment
FitsEvent (Image topics) = HaveNames topics

-- No group has more offsets than a count can say. No limit of the coordinator sees to that.
abbrev pub HasFewOffsets : Coordinator → Type 0
HasFewOffsets c = (name : Text) (g : Group) → finite.get c.groups name ≡ Some g → FitsCount (finite.len g.offsets)
