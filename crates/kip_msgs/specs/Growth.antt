-- How a listing grows by a partition at its end.
use Rattle.std.specs.Prelude.{ℕ, ℤ, Bool, List, [], ◌∷◌, ◌++◌, if◌then◌else◌}
use Rattle.std.specs.Str.{bytes_eq}
use Rattle.kip_msgs.specs.Values.{TopicPartitionsValue}
use Rattle.kip_msgs.specs.Listing.{alone}

-- whether an entry is of the topic
abbrev pub is_of : List ℕ → TopicPartitionsValue → Bool
is_of topic t = bytes_eq t.topic_id topic

-- an entry with one index more
abbrev pub with_index : TopicPartitionsValue → ℤ → TopicPartitionsValue
with_index t i = record t { partitions = t.partitions ++ i ∷ [] }

-- the last entry takes the partition where it is of its topic
abbrev pub behind_at : TopicPartitionsValue → List ℕ → ℤ → List TopicPartitionsValue → List TopicPartitionsValue → List TopicPartitionsValue
behind_at t topic index [] rest = if is_of topic t then with_index t index ∷ [] else t ∷ alone topic index ∷ []
behind_at t topic index (u ∷ us) rest = t ∷ rest

-- a partition behind others that are listed
abbrev pub behind : List TopicPartitionsValue → List ℕ → ℤ → List TopicPartitionsValue
behind [] topic index = alone topic index ∷ []
behind (t ∷ ts) topic index = behind_at t topic index ts (behind ts topic index)
