-- The lines of `coord run`: what they ask of a world. Their forms are this program's own.
use Rattle.std.specs.Prelude.{◌≡◌, ◌≢◌, ◌⊎◌, ℕ, suc, ℤ, pos, neg_ℤ, Bool, ◌==◌, List, [], ◌∷◌, All, position, Option, Some, None, codes, bytes_eq}
use Rattle.std.specs.List.{slice_split}
use Rattle.std.specs.Option.{option_map_or}
use Rattle.uuid.specs.Text.{parsed}
use Rattle.kip_msgs.specs.Values.{CommitRequestTopicValue}
use Rattle.group_types.specs.Text.{Text}
use Rattle.group_types.specs.declared.partition.Partition.{Partition}
use Rattle.member_core.specs.Settings.{Settings}
use Rattle.member_core.specs.Asking.{Fullness, Short, Owned, Full, Join, Beat, Leave, GoAway}
use Rattle.world_sim.specs.Acts.{Act, Asks, GivesUp, Deliver, Take, Release, Commits, Bring, Clock, Passes, Sees}
use Rattle.scenario_lines.specs.declared.verb.Verb.{Verb}
use Rattle.scenario_lines.specs.declared.verb.Verb.TheVariants as verbs
use Rattle.scenario_text.specs.Words.{IsName}
use Rattle.scenario_text.specs.Numbers.{SpellsCount, SpellsNumber, SpellsOffset}
use Rattle.scenario_text.specs.ImageWords.{IsImage}

-- ---- verbs

abbrev pub word_of : Verb → List ℕ
word_of verbs.Client = codes "client"
word_of verbs.Image = codes "image"
word_of verbs.Clock = codes "clock"
word_of verbs.Tick = codes "tick"
word_of verbs.Join = codes "join"
word_of verbs.Beat = codes "beat"
word_of verbs.Quit = codes "quit"
word_of verbs.Lose = codes "lose"
word_of verbs.Deliver = codes "deliver"
word_of verbs.Take = codes "take"
word_of verbs.Release = codes "release"
word_of verbs.Commit = codes "commit"
word_of verbs.Bring = codes "bring"
word_of verbs.Settle = codes "settle"

-- ---- words

-- the number of the client with a name: its place from 1, and 0, which is no client's, where nobody has the name
abbrev pub number_in : List Text → Text → ℕ
number_in cast name = option_map_or suc (position (bytes_eq name) cast) 0

-- the word is a name, and this is its client's number
pub record IsClient (cast : List Text) (word : List ℕ) (client : ℕ) : Type 0 where
  pub is_name : IsName word
  pub numbered : client ≡ number_in cast word

-- a name, or `-` for none
abbrev pub SpellsNameIfAny : List ℕ → Option Text → Type 0
SpellsNameIfAny word None = word ≡ codes "-"
SpellsNameIfAny word (Some name) = IsName word × (name ≡ word)

abbrev pub is_comma : ℕ → Bool
is_comma byte = byte == 44

-- names, parted by commas, or `-` for none
abbrev pub SpellsNames : List ℕ → List Text → Type 0
SpellsNames word names =
    ((word ≡ codes "-") × (names ≡ []))
    ⊎ ((names ≡ slice_split is_comma word) × All (λ name. IsName name × (name ≢ [])) names)

-- ---- what is asked

-- GROUP INSTANCE ASSIGNOR REBALANCE TOPICS are the settings of a client, which has no rack
pub record SpellSettings (words : List (List ℕ)) (s : Settings) : Type 0 where
  pub instance : List ℕ
  pub assignor : List ℕ
  pub rebalance : List ℕ
  pub topics : List ℕ
  pub are : words ≡ s.group ∷ instance ∷ assignor ∷ rebalance ∷ topics ∷ []
  pub group : IsName s.group
  pub instance_is : SpellsNameIfAny instance s.instance
  pub assignor_is : SpellsNameIfAny assignor s.assignor
  pub rebalance_is : SpellsCount rebalance s.rebalance_timeout
  pub topics_are : SpellsNames topics s.names
  pub no_rack : s.rack ≡ None

-- a commit of one partition's offset, with no leader epoch and no metadata
abbrev pub offset_of_one : Text → ℕ → ℤ → List CommitRequestTopicValue
offset_of_one topic index offset =
    record {
      name = topic;
      partitions = record {
        partition_index = pos index;
        committed_offset = offset;
        committed_leader_epoch = neg_ℤ (pos 1);
        committed_metadata = None;
        tags = [];
      } ∷ [];
      tags = [];
    } ∷ []

-- the words are one client's name
pub record NamesClient (cast : List Text) (words : List (List ℕ)) (client : ℕ) : Type 0 where
  pub name : List ℕ
  pub is_client : IsClient cast name client
  pub are : words ≡ name ∷ []

-- a client's name, and this word
pub record NamesClientAnd (cast : List Text) (words : List (List ℕ)) (client : ℕ) (word : List ℕ) : Type 0 where
  pub name : List ℕ
  pub is_client : IsClient cast name client
  pub are : words ≡ name ∷ word ∷ []

-- a client's name, a topic's id and an index
pub record NamesPartition (cast : List Text) (words : List (List ℕ)) (client : ℕ) (partition : Partition) : Type 0 where
  pub name : List ℕ
  pub topic : List ℕ
  pub index : List ℕ
  pub number : ℕ
  pub is_client : IsClient cast name client
  pub is_topic : parsed topic ≡ Some partition.topic
  pub is_index : SpellsCount index number
  pub is_number : partition.index ≡ pos number
  pub are : words ≡ name ∷ topic ∷ index ∷ []

-- a client's name, a topic's name, an index and an offset
pub record NamesOffset (cast : List Text) (words : List (List ℕ)) (client : ℕ) (topics : List CommitRequestTopicValue) : Type 0 where
  pub name : List ℕ
  pub topic : List ℕ
  pub index : List ℕ
  pub offset : List ℕ
  pub number : ℕ
  pub committed : ℤ
  pub is_client : IsClient cast name client
  pub is_topic : IsName topic
  pub is_index : SpellsCount index number
  pub is_offset : SpellsOffset offset committed
  pub is_commit : topics ≡ offset_of_one topic number committed
  pub are : words ≡ name ∷ topic ∷ index ∷ offset ∷ []

-- one number
pub record IsNumber (words : List (List ℕ)) (number : ℕ) : Type 0 where
  pub word : List ℕ
  pub spells : SpellsNumber word number
  pub are : words ≡ word ∷ []

-- the word of a kind of heartbeat
abbrev pub kind_word : Fullness → List ℕ
kind_word Short = codes "short"
kind_word Owned = codes "owned"
kind_word Full = codes "full"

-- The words behind a verb ask for an act, among clients of these names.
abbrev pub SpellsAct : List Text → Verb → List (List ℕ) → Act → Type 0
SpellsAct cast verbs.Image words (Sees image) = IsImage words image
SpellsAct cast verbs.Clock words (Clock moment) = IsNumber words moment
SpellsAct cast verbs.Tick words (Passes moment) = IsNumber words moment
SpellsAct cast verbs.Join words (Asks client Join) = NamesClient cast words client
SpellsAct cast verbs.Beat words (Asks client (Beat kind)) = NamesClientAnd cast words client (kind_word kind)
SpellsAct cast verbs.Quit words (Asks client Leave) = NamesClientAnd cast words client (codes "leave")
SpellsAct cast verbs.Quit words (Asks client GoAway) = NamesClientAnd cast words client (codes "away")
SpellsAct cast verbs.Lose words (GivesUp client) = NamesClient cast words client
SpellsAct cast verbs.Deliver words (Deliver request) = IsNumber words request
SpellsAct cast verbs.Take words (Take reply) = IsNumber words reply
SpellsAct cast verbs.Release words (Release client partition) = NamesPartition cast words client partition
SpellsAct cast verbs.Commit words (Commits client topics) = NamesOffset cast words client topics
SpellsAct cast verbs.Bring words (Bring commit) = IsNumber words commit
SpellsAct cast verb words act = ⊥
