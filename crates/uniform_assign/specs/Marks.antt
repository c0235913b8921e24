-- What is known of the former owners while their partitions are marked.
use Rattle.std.specs.Prelude.{◌≡◌, ◌⊎◌, ℕ, ◌<◌, pos, Bool, true, false, List, Some, slice_get, slice_index_or}
use Rattle.std.specs.Global.{Vec}
use Rattle.std.specs.Option.{option_map_or}
use Rattle.group_types.specs.declared.partition.Partition.{Partition}
use Rattle.group_types.specs.Partition.{Partitions}
use Rattle.group_types.specs.Sets.{has}
use Rattle.group_types.specs.Text.{Text}
use Rattle.group_types.specs.Assignors.{Subscriber}
use Rattle.topic_meta.specs.declared.view_topic.ViewTopic.{ViewTopic}

-- the partition with the index of the topic
abbrev pub part_of : ViewTopic → ℕ → Partition
part_of topic i = record { topic = topic.id; index = pos i }

-- whether the partition with an index of the topic at a place is marked
abbrev pub is_marked : List (Vec Bool) → ℕ → ℕ → Bool
is_marked marks t i = option_map_or (λ (v : Vec Bool). slice_index_or v.items i false) (slice_get marks t) false

-- the topic at the place has the id
abbrev pub HasId : List ViewTopic → List ℕ → ℕ → Type 0
HasId topics id t = (topic : ViewTopic) × (slice_get topics t ≡ Some topic) × (topic.id ≡ id)

-- the member at the place has the id
abbrev pub HasIdAt : List Subscriber → Text → ℕ → Type 0
HasIdAt subs id m = (member : Subscriber) × (slice_get subs m ≡ Some member) × (member.id ≡ id)

-- the partition is that with an index of the topic at a place, which is named
pub record IsPartAt (topics : List ViewTopic) (named : List Bool) (p : Partition) (t i : ℕ) : Type 0 where
  pub topic : ViewTopic
  pub is_topic : slice_get topics t ≡ Some topic
  pub is_named : slice_index_or named t false ≡ true
  pub same : p ≡ part_of topic i
  pub below : i < topic.count

-- each partition of the set is one of a topic that is named
abbrev pub AreNamed : List ViewTopic → List Bool → Partitions → Type 0
AreNamed topics named set = (p : Partition) → has set p ≡ true → (t : ℕ) × (i : ℕ) × IsPartAt topics named p t i

-- the mark is set, and no other that was not
abbrev pub AddsMark : ℕ → ℕ → List (Vec Bool) → List (Vec Bool) → Type 0
AddsMark at index old new = (t i : ℕ) → is_marked new t i ≡ true → (is_marked old t i ≡ true) ⊎ ((t ≡ at) × (i ≡ index))

-- what is marked was so before, or is a partition of the set
abbrev pub AddsMarks : List ViewTopic → Partitions → List (Vec Bool) → List (Vec Bool) → Type 0
AddsMarks topics set old new =
    (t i : ℕ) (topic : ViewTopic) → slice_get topics t ≡ Some topic → is_marked new t i ≡ true
    → (is_marked old t i ≡ true) ⊎ (has set (part_of topic i) ≡ true)

-- the first `count` marks are set
abbrev pub IsFull : List Bool → ℕ → Type 0
IsFull marks count = (i : ℕ) → i < count → slice_index_or marks i false ≡ true

-- each partition of each topic is marked
abbrev pub AreAllMarked : List ViewTopic → List (Vec Bool) → Type 0
AreAllMarked topics marks = (t i : ℕ) (topic : ViewTopic) → slice_get topics t ≡ Some topic → i < topic.count → is_marked marks t i ≡ true
