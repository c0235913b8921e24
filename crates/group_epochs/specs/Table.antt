-- The members of a group as a table by their ids' texts, and what callers see of it.
use Rattle.group_types.specs.Tick.{IsFirstDue, is_due}
use Rattle.group_types.specs.Leave.{away}
use Rattle.std.specs.Prelude.{◌≡◌, ℕ, ◌+◌, nat_le, min, not, if◌then◌else◌, List, [], ◌∷◌, length, map, filter, Option, Some, None, IsSome, String, string_bytes, ◌<◌, ◌≤◌, ◌==◌, Result, slice_get, slice_index_or, false, Bool, ◌++◌, ◌≢◌}
use Rattle.std.specs.FinMap as finite
use Rattle.std.specs.Ordering.{is_lt}
use Rattle.std.specs.declared.cmp.Ordering.{Ordering}
use Rattle.std.specs.declared.cmp.Ordering.TheVariants.{Less, Greater}
use Rattle.std.specs.List.{AllByRecursion}
use Rattle.std.specs.Map.{keys_of, set_value}
use Rattle.std.specs.Str.{bytes_eq}
use Rattle.std.specs.String.{string_eq}
use Rattle.indexmap.specs.IndexMap.{IndexMap, IsUnique, UpdatesBy, index_map_len, spare, get_by_text}
use Rattle.group_types.specs.declared.stamp.Stamp.{Stamp}
use Rattle.group_types.specs.Limits.{MOST_PAST_MEMBERS}
use Rattle.group_types.specs.Text.{Text, text_cmp}
use Rattle.group_types.specs.Places.{IsOrder, IsRankIn, key_at, keys_at}
use Rattle.group_types.specs.Assignors.{Subscriber, instance_cmp}
use Rattle.group_types.specs.Group.{Record, Records}
use Rattle.group_types.specs.Members.{past_stamp}
use Rattle.group_types.specs.Checks.{is_late}
use Rattle.group_types.specs.Renewal.{subscriber_of}
use Rattle.group_epochs.specs.Past.{PastState, HasRoomFor, places}
use Rattle.group_epochs.specs.Records.{Marks, RecordsState, beaten}
use Rattle.group_epochs.specs.declared.entry.Entry.{Entry}

abbrev pub with_mark : Marks → Text → Option ℕ → Marks
with_mark marks m None = finite.remove marks m
with_mark marks m (Some epoch) = finite.insert marks m epoch

module _ {Y : Type 0} where
  abbrev pub records_in : List (String Y × Entry) → Records
  records_in rows = finite.from_entries (map (λ row. (string_bytes row.0, row.1.kept)) rows)

  abbrev pub marks_in : List (String Y × Entry) → Marks
  marks_in [] = finite.empty
  marks_in (row ∷ rows) = with_mark (marks_in rows) (string_bytes row.0) row.1.mark

  -- the rows of others than a member
  abbrev pub others : Text → List (String Y × Entry) → List (String Y × Entry)
  others m rows = filter (λ row. not (bytes_eq (string_bytes row.0) m)) rows

-- ---- the order of ids

module _ {Y : Type 0} where
  -- the ids' texts, place by place
  abbrev pub texts_in : List (String Y × Entry) → List Text
  texts_in rows = map string_bytes (keys_of rows)

-- the text at a place
abbrev pub text_at : List Text → ℕ → Text
text_at = key_at []

-- the texts at places
abbrev pub texts_at : List Text → List ℕ → List Text
texts_at = keys_at []

-- the places of all texts, in the order of their bytes
abbrev pub IsIdOrder : List Text → List ℕ → Type 0
IsIdOrder = IsOrder text_cmp []

-- the rank of a text among places in that order, or else where its place would go
abbrev pub IsRank : List Text → List ℕ → Text → Result ℕ ℕ → Type 0
IsRank = IsRankIn text_cmp []

-- ---- member order

-- a member's id and, before it, its instance
abbrev pub Key : Type 0
Key = Option Text × Text

abbrev pub no_key : Key
no_key = (None, [])

abbrev pub key_cmp : Key → Key → Ordering
key_cmp a b = instance_cmp a.0 b.0 (text_cmp a.1 b.1)

module _ {Y : Type 0} where
  abbrev pub key_of : String Y × Entry → Key
  key_of row = (row.1.kept.instance, string_bytes row.0)

  -- the members' keys, place by place
  abbrev pub keys_in : List (String Y × Entry) → List Key
  keys_in rows = map key_of rows

  -- the places of all members, in member order
  abbrev pub IsMemberOrder : List (String Y × Entry) → List ℕ → Type 0
  IsMemberOrder rows = IsOrder key_cmp no_key (keys_in rows)

-- the keys, where the member's has this instance
abbrev pub rekeyed : Text → Option Text → List Key → List Key
rekeyed m instance [] = []
rekeyed m instance (k ∷ ks) = if bytes_eq m k.1 then (instance, k.1) ∷ ks else k ∷ rekeyed m instance ks

-- The places before a key's, and the others: the keys of the former come before it, and none of the others does.
pub record IsSplitAt (keys : List Key) (places : List ℕ) (k : Key) (before after : List ℕ) : Type 0 where
  pub all : before ++ after ≡ places
  pub below : AllByRecursion (λ place. key_cmp (key_at no_key keys place) k ≡ Less) before
  pub above : AllByRecursion (λ place. is_lt (key_cmp (key_at no_key keys place) k) ≡ false) after

-- whether it is the place, if there is one
abbrev pub is_place : Option ℕ → ℕ → Bool
is_place None place = false
is_place (Some own) place = own == place

-- the places but one, if there is one
abbrev pub other_places : Option ℕ → List ℕ → List ℕ
other_places own places = filter (λ place. not (is_place own place)) places

-- how an instance and the one looked for are ordered: none comes behind all
abbrev pub instance_order : Text → Option Text → Ordering
instance_order i None = Greater
instance_order i (Some own) = text_cmp own i

-- ---- the table

module _ {Y S : Type 0} where
  -- how many ids there are, of members and of former members
  abbrev pub ids : IndexMap (String Y) Entry S → PastState → ℕ
  ids members past = index_map_len members + length past.past

  -- how many members more fit without memory, where a number of places fits in the order: none where their ids couldn't be
  -- remembered
  abbrev pub room_in : IndexMap (String Y) Entry S → PastState → ℕ → ℕ
  room_in members past order =
      if nat_le (min MOST_PAST_MEMBERS (ids members past + 1)) (places past) then min order (spare members) else 0

  -- Each member stands under its id and no two under one, no member is a former member, there is room to remember each when
  -- it leaves, and the places are in the order of ids.
  pub record IsTable (members : IndexMap (String Y) Entry S) (by_id : List ℕ) (past : PastState) : Type 0 where
    pub named : (m : Text) (e : Entry) → get_by_text members m ≡ Some e → e.id ≡ m
    pub apart : (m : Text) → IsSome (get_by_text members m) → past_stamp past.past m ≡ None
    pub room : HasRoomFor past (ids members past)
    pub distinct : IsUnique string_eq members
    pub order : IsIdOrder (texts_in members.entries) by_id

-- what callers see of it
abbrev pub state_of : {Y S : Type 0} → IndexMap (String Y) Entry S → PastState → ℕ → ℕ → RecordsState
state_of members past order names_room =
    record { records = records_in members.entries; past = past.past; marks = marks_in members.entries; room = room_in members past order; names_room = names_room }

-- nobody in the table has the instance
abbrev pub IsNobodys : {Y S : Type 0} → Text → IndexMap (String Y) Entry S → Type 0
IsNobodys i members = (m : Text) (e : Entry) → get_by_text members m ≡ Some e → e.kept.instance ≢ Some i

-- the entry is that of a member with the instance
pub record IsOfMemberWith {Y S : Type 0} (i : Text) (members : IndexMap (String Y) Entry S) (e : Entry) : Type 0 where
  pub id : Text
  pub there : get_by_text members id ≡ Some e
  pub same : e.kept.instance ≡ Some i

-- a member as an assignor sees it
abbrev pub seen_of : {Y : Type 0} → String Y × Entry → Subscriber
seen_of row = subscriber_of (row.1.id, row.1.kept)

-- ---- changes at one id

module _ {Y S : Type 0} where
  -- the table answers so at an id, and at the others as before
  abbrev pub ChangesAt : Text → IndexMap (String Y) Entry S → IndexMap (String Y) Entry S → Option Entry → Type 0
  ChangesAt m before after entry =
      UpdatesBy string_eq (λ k. bytes_eq m (string_bytes k)) before after entry

  -- the entry of a member is another one
  pub record Rewrites (before after : IndexMap (String Y) Entry S) (m : Text) (change : Entry → Entry) : Type 0 where
    pub entry : (e : Entry) → get_by_text before m ≡ Some e → ChangesAt m before after (Some (change e))
    pub len : index_map_len after ≡ index_map_len before
    pub room : spare after ≡ spare before
    pub texts : texts_in after.entries ≡ texts_in before.entries
    pub rows : (e : Entry) → get_by_text before m ≡ Some e → after.entries ≡ set_value (λ k. bytes_eq m (string_bytes k)) before.entries (change e)
    pub distinct : IsUnique string_eq after

  -- a member comes in
  pub record Adds (before after : IndexMap (String Y) Entry S) (m : Text) (entry : Entry) : Type 0 where
    pub entries : ChangesAt m before after (Some entry)
    pub len : index_map_len after ≡ index_map_len before + 1
    pub distinct : IsUnique string_eq after

  -- a member goes, and gives its id
  pub record TakesOut (before after : IndexMap (String Y) Entry S) (m id : Text) : Type 0 where
    pub given : (e : Entry) → get_by_text before m ≡ Some e → id ≡ e.id
    pub entries : ChangesAt m before after None
    pub len : index_map_len after + 1 ≡ index_map_len before
    pub room : spare before ≤ spare after
    pub distinct : IsUnique string_eq after

abbrev pub with_record_kept : Record → Entry → Entry
with_record_kept r e = record e { kept = r; mark = None }

abbrev pub with_beat : Stamp → ℕ → Entry → Entry
with_beat stamp now e = record e { kept = beaten e.kept stamp now }

-- the member is marked at the epoch, and the stamp comes after its last one
abbrev pub IsMarkedBefore : ℕ → Stamp → Entry → Type 0
IsMarkedBefore epoch stamp e = (e.mark ≡ Some epoch) × (is_late stamp e.kept.stamp ≡ false)

abbrev pub marked_at : ℕ → Entry → Entry
marked_at epoch e = record e { mark = Some epoch }

abbrev pub with_away : Stamp → ℕ → Entry → Entry
with_away stamp now e = record e { kept = away e.kept stamp now; mark = None }

-- ---- the rows in the order of ids

module _ {Y : Type 0} where
  abbrev pub with_row : Option (String Y × Entry) → List (String Y × Entry) → List (String Y × Entry)
  with_row None rows = rows
  with_row (Some row) rows = row ∷ rows

  -- the rows at places
  abbrev pub rows_at : List (String Y × Entry) → List ℕ → List (String Y × Entry)
  rows_at rows [] = []
  rows_at rows (place ∷ places) = with_row (slice_get rows place) (rows_at rows places)

  abbrev pub is_row_due : Option (String Y × Entry) → ℕ → Bool
  is_row_due None clock = false
  is_row_due (Some row) clock = is_due clock row.1.kept

  -- whether a deadline has come of the member whose place has the rank
  abbrev pub is_due_at : List (String Y × Entry) → List ℕ → ℕ → ℕ → Bool
  is_due_at rows places clock rank = is_row_due (slice_get rows (slice_index_or places rank 0)) clock

-- ---- ranks

-- the member at a rank, in the order of ids
abbrev pub member_at : Records → ℕ → Option (Text × Record)
member_at records rank = slice_get (finite.entries records) rank

-- of the members before a rank, in the order of ids, none is due
abbrev pub NoneIsDueBefore : Records → ℕ → ℕ → Type 0
NoneIsDueBefore records clock rank =
    (k : ℕ) (m : Text × Record) → k < rank → member_at records k ≡ Some m → is_due clock m.1 ≡ false

-- the member at the rank is the first that is due
pub record IsFirstRank (records : Records) (clock rank : ℕ) : Type 0 where
  pub id : Text
  pub kept : Record
  pub there : member_at records rank ≡ Some (id, kept)
  pub first : IsFirstDue records clock id kept
  pub before : NoneIsDueBefore records clock rank
