-- The facts that hold of the topics of every image, and of every view of one.
use Rattle.std.specs.Prelude.{◌≡◌, ℕ, ◌≤◌, sum_by, Some}
use Rattle.std.specs.FinMap.{entries, get, len}
use Rattle.flex_wire.specs.Spelling.{FitsUuid}
use Rattle.group_types.specs.Text.{Text}
use Rattle.group_types.specs.Topics.{Topic, Topics}
use Rattle.group_types.specs.Limits.{MOST_TOPICS, MOST_PARTITIONS, MOST_TOPIC_PARTITIONS}

-- two names with one id are one name
abbrev pub IdsAreApart : Topics → Type 0
IdsAreApart topics =
    (p q : Text) (s t : Topic) → get topics p ≡ Some s → get topics q ≡ Some t → s.id ≡ t.id → p ≡ q

-- Kafka protocol guide, "Protocol Primitive Types": each id is a UUID. Else a reply that assigns the topic's partitions has no bytes
abbrev pub IdsAreUuids : Topics → Type 0
IdsAreUuids topics = (name : Text) (t : Topic) → get topics name ≡ Some t → FitsUuid t.id

-- every topic has at least one partition, and no more than the limit
abbrev pub CountsAreInRange : Topics → Type 0
CountsAreInRange topics =
    (name : Text) (t : Topic) → get topics name ≡ Some t → (1 ≤ t.count) × (t.count ≤ MOST_TOPIC_PARTITIONS)

-- the partitions of all topics together
abbrev pub partition_count : Topics → ℕ
partition_count topics = sum_by (λ e. e.1.count) (entries topics)

-- what is true of the topics of every image, and so of every view
pub record AreImageTopics (topics : Topics) : Type 0 where
  pub ids_apart : IdsAreApart topics
  pub ids : IdsAreUuids topics
  pub counts : CountsAreInRange topics
  pub few : len topics ≤ MOST_TOPICS
  pub few_partitions : partition_count topics ≤ MOST_PARTITIONS
