-- The one spelling of each entry, and which entries have one: a column of fields for each kind (ours). The fields are
-- those of the Kafka protocol guide, section "Protocol Primitive Types".
use Rattle.std.specs.Prelude.{◌≡◌, ℕ, pos, ◌<◌, ◌^◌, ⊤, List, [], ◌∷◌, ◌++◌, FitsSigned}
use Rattle.std.specs.Int.{w32}
use Rattle.flex_wire.specs.Spelling.{int16, int32, int64, uuid, FitsUuid, compact_string, FitsText}
use Rattle.flex_wire.specs.Composed.{array, FitsArray}
use Rattle.group_types.specs.Frames.{IsBody}
use Rattle.topic_meta.specs.Images.{Entry}
use Rattle.replica_entries.specs.declared.kind.Kind.{Kind}
use Rattle.replica_entries.specs.Kinds.{VERSION, kind_number}
use Rattle.replica_entries.specs.Values.{FrameValue, ContentValue, frame, tick, image, leads, EntryValue, kind_of}

-- Fields one after the other.
abbrev pub fields : List (List ℕ) → List ℕ
fields [] = []
fields (field ∷ others) = field ++ fields others

-- A frame; its body is all that is left.
unfoldable pub frame_fields : FrameValue → List ℕ
frame_fields f = fields (
    int32 (pos f.connection)
    ∷ int64 (pos f.number)
    ∷ int64 (pos f.moment)
    ∷ f.body
    ∷ [])

-- A topic of an image.
unfoldable pub topic_fields : Entry → List ℕ
topic_fields topic = fields (
    compact_string topic.name
    ∷ uuid topic.id
    ∷ int32 topic.count
    ∷ [])

-- What an entry brings.
unfoldable pub content_fields : ContentValue → List ℕ
content_fields (frame f) = frame_fields f
content_fields (tick moment) = int64 (pos moment)
content_fields (image topics) = array topic_fields topics
content_fields leads = []

-- What stands in front of each entry: the version, the kind and the leadership.
unfoldable pub head_fields : Kind → ℕ → List ℕ
head_fields kind leadership = fields (
    int16 VERSION
    ∷ int16 (kind_number kind)
    ∷ int32 (pos leadership)
    ∷ [])

-- An entry.
unfoldable pub entry_fields : EntryValue → List ℕ
entry_fields v = head_fields (kind_of v.content) v.leadership ++ content_fields v.content

-- The numbers of a frame are no more than the greatest of their fields.
pub record FitsFrameNumbers (f : FrameValue) : Type 0 where
  pub connection : f.connection < 2 ^ 31
  pub number : f.number < 2 ^ 63
  pub moment : f.moment < 2 ^ 63

-- The numbers of what an entry brings are no more than that.
abbrev pub FitsNumbers : ContentValue → Type 0
FitsNumbers (frame f) = FitsFrameNumbers f
FitsNumbers (tick moment) = moment < 2 ^ 63
FitsNumbers (image topics) = ⊤
FitsNumbers leads = ⊤

-- A frame's body has a length that the body of a frame has.
abbrev pub FitsBody : ContentValue → Type 0
FitsBody (frame f) = IsBody f.body
FitsBody (tick moment) = ⊤
FitsBody (image topics) = ⊤
FitsBody leads = ⊤

-- A topic whose fields have a spelling.
pub record FitsTopic (topic : Entry) : Type 0 where
  pub name : FitsText topic.name
  pub id : FitsUuid topic.id
  pub count : FitsSigned w32 topic.count

-- The topics of an image have a spelling.
abbrev pub FitsTopics : ContentValue → Type 0
FitsTopics (frame f) = ⊤
FitsTopics (tick moment) = ⊤
FitsTopics (image topics) = FitsArray FitsTopic topics
FitsTopics leads = ⊤

-- An entry that has a spelling.
pub record FitsEntry (v : EntryValue) : Type 0 where
  pub leadership : v.leadership < 2 ^ 31
  pub numbers : FitsNumbers v.content
  pub body : FitsBody v.content
  pub topics : FitsTopics v.content

-- All of the bytes are the entry.
pub record SpellsEntry (v : EntryValue) (run : List ℕ) : Type 0 where
  pub fits : FitsEntry v
  pub bytes : run ≡ entry_fields v
