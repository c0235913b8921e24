-- Range, topic by topic and member by member: a member's turn at a topic comes after those of the subscribers before it.
use Rattle.std.specs.Prelude.{◌≡◌, ◌⊎◌, ◌<◌, ◌≤◌, ◌↔◌, ℕ, pos, if◌then◌else◌, List, [], ◌∷◌, ◌++◌, length, map, take, Some, IsTrue, slice_get, slice_index, string_bytes}
use Rattle.group_types.specs.declared.partition.Partition.{Partition}
use Rattle.group_types.specs.Sets.{has, is_nothing}
use Rattle.group_types.specs.Text.{Text}
use Rattle.group_types.specs.Partition.{Partitions}
use Rattle.group_types.specs.Assignors.{Subscriber, subscribers_of}
use Rattle.group_types.specs.Owners.{range_place}
use Rattle.topic_meta.specs.declared.view_topic.ViewTopic.{ViewTopic}

-- how many of the members subscribe each topic
abbrev pub counts_of : List ViewTopic → List Subscriber → List ℕ
counts_of topics subs = map (λ t. length (subscribers_of subs (string_bytes t.name))) topics

-- of each topic all partitions are dealt, or all subscribers had their turn
abbrev pub AreDealt : List ViewTopic → List ℕ → List ℕ → Type 0
AreDealt topics counts places =
    (t : ℕ) (topic : ViewTopic) → slice_get topics t ≡ Some topic → (topic.count ≤ slice_index places t) ⊎ (slice_index counts t ≤ slice_index places t)

-- the partition is one of the topic, with an index from the first to before the end
abbrev pub IsInRun : List ℕ → ℕ → ℕ → Partition → Type 0
IsInRun topic first end p = (i : ℕ) × (p.topic ≡ topic) × (p.index ≡ pos i) × (first ≤ i) × (i < end)

-- the new set has what the old one has, and the run
abbrev pub AddsRun : Partitions → Partitions → List ℕ → ℕ → ℕ → Type 0
AddsRun old new topic first end = (p : Partition) → IsTrue (has new p) ↔ (IsTrue (has old p) ⊎ IsInRun topic first end p)

-- the member after those of `done`, of all the members, subscribes the topic, and the partition is in its run
pub record IsInTurn (subs done : List Subscriber) (m : Subscriber) (topic : ViewTopic) (p : Partition) : Type 0 where
  pub subscribes : IsTrue (has m.names (string_bytes topic.name))
  pub same_id : p.topic ≡ topic.id
  pub index : ℕ
  pub is_index : p.index ≡ pos index
  pub below : index < topic.count
  pub place : range_place topic.count (length (subscribers_of subs (string_bytes topic.name))) index ≡ length (subscribers_of done (string_bytes topic.name))

-- one of the first n topics gives the partition to the member
abbrev pub IsGiven : List ViewTopic → ℕ → List Subscriber → List Subscriber → Subscriber → Partition → Type 0
IsGiven topics n subs done m p =
    (t : ℕ) × (topic : ViewTopic) × (t < n) × (slice_get topics t ≡ Some topic) × IsInTurn subs done m topic p

-- KIP-848, "Server Side Assignors": the partitions of the member at a place among the members, under range
abbrev pub IsRangeShare : List ViewTopic → List Subscriber → ℕ → Partitions → Type 0
IsRangeShare topics subs at set =
    (m : Subscriber) → slice_get subs at ≡ Some m → (p : Partition) → IsTrue (has set p) ↔ IsGiven topics (length topics) subs (take at subs) m p

-- the share of the member at a place among the members, under range
pub record IsDealt (topics : List ViewTopic) (subs : List Subscriber) (at : ℕ) (share : Text × Partitions) : Type 0 where
  pub same_id : (m : Subscriber) → slice_get subs at ≡ Some m → share.0 ≡ m.id
  pub set : IsRangeShare topics subs at share.1

-- the shares, with one that has a partition at the end
abbrev pub with_dealt : List (Text × Partitions) → Text × Partitions → List (Text × Partitions)
with_dealt shares share = if is_nothing share.1 then shares else shares ++ share ∷ []

-- the new shares are the old ones with that of the member at a place, where that has a partition
abbrev pub AddsDealt : List ViewTopic → List Subscriber → ℕ → List (Text × Partitions) → List (Text × Partitions) → Type 0
AddsDealt topics subs at old new = (share : Text × Partitions) × IsDealt topics subs at share × (new ≡ with_dealt old share)
