-- KIP-848, "Group Metadata": a view has the topics of the image that some member subscribes, and no others.
use Rattle.std.specs.Prelude.{◌≡◌, ◌↔◌, Some, IsTrue}
use Rattle.std.specs.FinMap as finite
use Rattle.group_types.specs.Text.{Text}
use Rattle.group_types.specs.Sets.{has}
use Rattle.group_types.specs.Topics.{Topic, Topics}
use Rattle.group_types.specs.Group.{Record, Records}
use Rattle.group_types.specs.Renewal.{view_for}

-- some member has the topic's name among those that it subscribes
pub record SomebodySubscribes (records : Records) (name : Text) : Type 0 where
  pub member : Text
  pub kept : Record
  pub is_kept : finite.get records member ≡ Some kept
  pub subscribes : IsTrue (has kept.names name)

abbrev pub ViewsAreOfTheSubscribed : Type 0
ViewsAreOfTheSubscribed =
    (image : Topics) (records : Records) (name : Text) (topic : Topic)
    → (finite.get (view_for image records) name ≡ Some topic) ↔ ((finite.get image name ≡ Some topic) × SomebodySubscribes records name)
