-- What the owners under range are.
use Rattle.std.specs.Prelude.{◌≡◌, List}
use Rattle.group_types.specs.declared.partition.Partition.{Partition}
use Rattle.group_types.specs.Text.{Text}
use Rattle.group_types.specs.Topics.{Topics}
use Rattle.group_types.specs.Assignors.{Subscriber}
use Rattle.group_types.specs.Owners.{Spread, IsLawful, IsRange, IsRangeOwner, IsSubscriber}
use Rattle.group_types.specs.Images.{AreImageTopics}

-- Under range each partition that some member subscribes has exactly one owner, who subscribes it; nothing else is owned.
abbrev pub RangeIsLawful : Type 0
RangeIsLawful = (view : Topics) (subs : List Subscriber) (spread : Spread) → IsRange view subs spread → IsLawful view subs spread

-- this is the owner under range, and nobody else is
pub record IsOnlyOwner (view : Topics) (subs : List Subscriber) (p : Partition) (id : Text) : Type 0 where
  pub owns : IsRangeOwner view subs p id
  pub only : (other : Text) → IsRangeOwner view subs p other → other ≡ id

-- range gives each partition that some member subscribes to exactly one member
abbrev pub SubscribedPartitionsHaveAnOwner : Type 0
SubscribedPartitionsHaveAnOwner =
    (view : Topics) (subs : List Subscriber) → AreImageTopics view → (p : Partition) (id : Text) → IsSubscriber view subs p id
    → (owner : Text) × IsOnlyOwner view subs p owner
