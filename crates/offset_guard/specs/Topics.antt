-- The offsets of each topic, as they are kept (ours).
use Rattle.std.specs.Prelude.{◌≡◌, ℕ, ◌≤◌, ℤ, not, List, [], ◌∷◌, Option, Some, None, refl, String}
use Rattle.std.specs.Coded.{Coded, code_by, coded×, coded_ℕ, coded_ℤ}
use Rattle.std.specs.declared.alloc.Global.{Global}
use Rattle.std.specs.declared.random_state.RandomState.{RandomState}
use Rattle.std.specs.Ordering.{eq_by_cmp, int_cmp}
use Rattle.std.specs.FinMap as finite
use Rattle.std.specs.String.{string_bytes}
use Rattle.indexmap.specs.IndexMap.{IndexMap, get_by_text, index_map_len, spare}
use Rattle.group_types.specs.Text.{Text, text_cmp}
use Rattle.group_types.specs.Group.{Committed, Offsets}
use Rattle.offset_guard.specs.Stored.{committed_code}

-- what is committed for the indexes of one topic
abbrev pub IndexOffsets : Type 0
IndexOffsets = finite.FinMap int_cmp Committed

pub record TopicState : Type 0 where
  pub offsets : IndexOffsets
  pub len : ℕ  -- how many there are
  pub room : ℕ  -- how many more can come without taking memory

abbrev pub topic_code : Coded TopicState
topic_code =
    code_by (IndexOffsets × (ℕ × ℕ)) (coded× (finite.code coded_ℤ committed_code) (coded× coded_ℕ coded_ℕ))
    (λ t. (t.offsets, (t.len, t.room))) (λ p. record { offsets = p.0; len = p.1.0; room = p.1.1 }) (λ _. refl)

-- the topics that have an entry, by their names
abbrev pub TopicTable : Type 0
TopicTable = IndexMap (String Global) TopicState RandomState

-- ---- what is committed

-- for an index of a topic, where the topic has an entry
abbrev pub offset_in : Option TopicState → ℤ → Option Committed
offset_in None index = None
offset_in (Some t) index = finite.get t.offsets index

-- for a topic's name and an index
abbrev pub offset_at : TopicTable → Text × ℤ → Option Committed
offset_at topics place = offset_in (get_by_text topics place.0) place.1

-- offsets with those of one topic
abbrev pub with_topic : Text → List (ℤ × Committed) → Offsets → Offsets
with_topic name [] offsets = offsets
with_topic name (x ∷ xs) offsets = finite.insert (with_topic name xs offsets) (name, x.0) x.1

-- the offsets of all topics: of two entries of one name the first counts, as a look-up finds it
abbrev pub offsets_in : List (String Global × TopicState) → Offsets
offsets_in [] = finite.empty
offsets_in (t ∷ ts) =
    with_topic (string_bytes t.0) (finite.entries t.1.offsets)
    (finite.retain_keys (offsets_in ts) (λ place. not (eq_by_cmp text_cmp place.0 (string_bytes t.0))))

abbrev pub KeepsOffsets : TopicTable → TopicTable → Type 0
KeepsOffsets old new = (place : Text × ℤ) → offset_at new place ≡ offset_at old place

-- ---- room

-- a number of further offsets of the topic can come, where it has an entry
abbrev pub HasTopicRoom : TopicTable → Text → ℕ → Type 0
HasTopicRoom topics name n = (t : TopicState) → get_by_text topics name ≡ Some t → n ≤ t.room

abbrev pub KeepsRoom : TopicTable → TopicTable → Type 0
KeepsRoom old new = (name : Text) (n : ℕ) → HasTopicRoom old name n → HasTopicRoom new name n

-- the new offsets can come without taking memory
pub record HasRoomFor (topics news : TopicTable) : Type 0 where
  pub entries : index_map_len news ≤ spare topics
  pub each : (name : Text) (t : TopicState) → get_by_text news name ≡ Some t → HasTopicRoom topics name t.len
