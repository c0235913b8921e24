-- What a list of topics must be to make an image, and which image it makes. The limits and the
-- order of the faults are ours.
use Rattle.std.specs.Prelude.{ℕ, ℤ, pos, negsuc, Bool, not, ◌&&◌, ◌||◌, List, [], ◌∷◌, ◌++◌, map, length, sum_by, nat_lt, nat_le, bytes_eq, if◌then◌else◌, string_bytes, Option, Some, None}
use Rattle.std.specs.FinMap as finite
use Rattle.std.specs.Option.{option_or}
use Rattle.std.specs.Set.{is_member}
use Rattle.group_types.specs.Text.{Text}
use Rattle.group_types.specs.Topics.{Topic, Topics}
use Rattle.topic_meta.specs.declared.image_fault.ImageFault.{ImageFault}
use Rattle.topic_meta.specs.declared.image_fault.ImageFault.TheVariants.{DuplicateName, DuplicateId, TooMany, BadCount}
use Rattle.topic_meta.specs.declared.topic.TopicEntry.{TopicEntry}
use Rattle.group_types.specs.Limits.{MOST_TOPICS, MOST_PARTITIONS, MOST_TOPIC_PARTITIONS}

-- one topic of a list as it comes in
pub record Entry : Type 0 where
  pub name : Text
  pub id : List ℕ
  pub count : ℤ

-- an entry as its text, its bytes and its number
abbrev pub entry_of : TopicEntry → Entry
entry_of e = record { name = string_bytes e.name; id = e.id; count = e.count }

-- the entries of a list, in their order
abbrev pub entries_of : List TopicEntry → List Entry
entries_of list = map entry_of list

-- a count as a number of partitions: none where it is negative
abbrev pub partitions : ℤ → ℕ
partitions (pos n) = n
partitions (negsuc n) = 0

-- what an entry says of its topic beside the name
abbrev pub topic_of : Entry → Topic
topic_of e = record { id = e.id; count = partitions e.count }

-- KIP-848, "Group Metadata": the topics of an image, each by its name
abbrev pub topics_of : List Entry → Topics
topics_of entries = finite.from_entries (map (λ e. (e.name, topic_of e)) entries)

-- Kafka protocol guide, "Partitioning and bootstrapping": a topic has at least one partition. Here it has no more than the limit
abbrev pub is_count : ℕ → Bool
is_count n = nat_lt 0 n && nat_le n MOST_TOPIC_PARTITIONS

-- the partitions of all topics of a list together
abbrev pub partitions_in : List Entry → ℕ
partitions_in entries = sum_by (λ e. partitions e.count) entries

-- more topics than an image may have, or more partitions
abbrev pub is_too_many : List Entry → Bool
is_too_many entries =
    nat_lt MOST_TOPICS (length entries) || nat_lt MOST_PARTITIONS (partitions_in entries)

-- the fault of a topic of `count` partitions, whose name or id may be taken. The count comes first, and then the name
abbrev pub fault_if : Bool → Bool → ℕ → Option ImageFault
fault_if name_taken id_taken count =
    if not (is_count count) then Some BadCount
    else (if name_taken then Some DuplicateName else (if id_taken then Some DuplicateId else None))

-- the fault of an entry that comes after the earlier ones, none of which may have its name or its id
abbrev pub fault_of : List Entry → Entry → Option ImageFault
fault_of earlier e =
    fault_if (is_member bytes_eq (map (λ d. d.name) earlier) e.name)
    (is_member bytes_eq (map (λ d. d.id) earlier) e.id)
    (partitions e.count)

-- the fault of the first of the entries that has one, where they come after the earlier ones
abbrev pub first_fault_after : List Entry → List Entry → Option ImageFault
first_fault_after earlier [] = None
first_fault_after earlier (e ∷ entries) =
    option_or (fault_of earlier e) (first_fault_after (earlier ++ e ∷ []) entries)

-- the fault of a list: that it has too many topics or partitions, or else that of the first entry that has one
abbrev pub first_fault : List Entry → Option ImageFault
first_fault entries = if is_too_many entries then Some TooMany else first_fault_after [] entries
