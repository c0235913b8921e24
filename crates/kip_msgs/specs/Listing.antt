-- How partitions stand in TopicPartitions (KIP-848, "TopicPartitions"): the id of a topic once for each run of its indexes,
-- and these in the order in which they come.
use Rattle.std.specs.Prelude.{ℕ, ℤ, List, [], ◌∷◌, if◌then◌else◌}
use Rattle.std.specs.Str.{bytes_eq}
use Rattle.kip_msgs.specs.Values.{TopicPartitionsValue}

-- the entry of one partition alone
abbrev pub alone : List ℕ → ℤ → TopicPartitionsValue
alone topic index = record { topic_id = topic; partitions = index ∷ []; tags = [] }

-- a partition before others that are listed
abbrev pub before : List ℕ → ℤ → List TopicPartitionsValue → List TopicPartitionsValue
before topic index [] = alone topic index ∷ []
before topic index (t ∷ ts) =
    if bytes_eq topic t.topic_id
    then record t { partitions = index ∷ t.partitions } ∷ ts
    else alone topic index ∷ t ∷ ts

-- partitions of any kind, each with the id of its topic and an index
abbrev pub listed_by : {P : Type 0} → (P → List ℕ) → (P → ℤ) → List P → List TopicPartitionsValue
listed_by topic index [] = []
listed_by topic index (p ∷ ps) = before (topic p) (index p) (listed_by topic index ps)
