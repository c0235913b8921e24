-- Reading an entry from all of a list of bytes: its value, or the first fault that is met. That an entry is read
-- exactly where the bytes spell one is a clause of its own; what is left for this page is which fault comes first (ours).
use Rattle.std.specs.Prelude.{◌≡◌, ◌≢◌, ◌⊎◌, ℕ, ℤ, pos, negsuc, List, length, nat_le, ◌&&◌, ◌==◌, Bool, Option, Some, None, Result, Ok, Err, if◌then◌else◌}
use Rattle.std.specs.Int.{Width, w16, w32, w64}
use Rattle.std.specs.Ordering.{int_eq}
use Rattle.flex_wire.specs.declared.fault.WireFault.{WireFault}
use Rattle.flex_wire.specs.Reading.{Read, signed_at, uuid_at, compact_string_at}
use Rattle.flex_wire.specs.Composed.{nothing_at, pair_at, made_at, array_at}
use Rattle.group_types.specs.Limits.{SMALLEST_BODY, LARGEST_BODY}
use Rattle.topic_meta.specs.Images.{Entry}
use Rattle.replica_entries.specs.declared.kind.Kind.{Kind}
use Rattle.replica_entries.specs.declared.kind.Kind.TheVariants.{Frame, Tick, Image, Leads}
use Rattle.replica_entries.specs.declared.fault.EntryFault.{EntryFault}
use Rattle.replica_entries.specs.declared.fault.EntryFault.TheVariants.{UnknownVersion, UnknownKind, BadNumber, BadBody, LeftOver, NoMemory}
use Rattle.replica_entries.specs.Kinds.{VERSION, kind_with}
use Rattle.replica_entries.specs.Faults.{entry_fault}
use Rattle.replica_entries.specs.Values.{FrameValue, ContentValue, frame, tick, image, leads, EntryValue}

-- A step that may fail, and what comes after it.
abbrev pub and_then : {A B : Type 0} → Result A EntryFault → (A → Result B EntryFault) → Result B EntryFault
and_then (Ok x) more = more x
and_then (Err e) more = Err e

-- A field of an entry; its fault is the entry's.
abbrev pub field_of : {A : Type 0} → Result A WireFault → Result A EntryFault
field_of (Ok x) = Ok x
field_of (Err fault) = Err (entry_fault fault)

-- A value behind which these bytes are left.
abbrev pub whole : {A : Type 0} → A → List ℕ → Result A EntryFault
whole x rest = if length rest == 0 then Ok x else Err LeftOver

-- A number that was read, and the bytes behind it: it isn't negative.
abbrev pub not_negative : ℤ → List ℕ → Result (ℕ × List ℕ) EntryFault
not_negative (pos n) rest = Ok (n, rest)
not_negative (negsuc n) rest = Err BadNumber

-- A number of this width that isn't negative.
unfoldable pub number_at : Width → List ℕ → Result (ℕ × List ℕ) EntryFault
number_at w bytes = and_then (field_of (signed_at w bytes)) (λ z. not_negative z.0 z.1)

-- A kind, where its number is one of a kind.
abbrev pub known_kind : Option Kind → List ℕ → Result (Kind × List ℕ) EntryFault
known_kind None rest = Err UnknownKind
known_kind (Some kind) rest = Ok (kind, rest)

-- The kind behind a version.
abbrev pub kind_behind : ℤ → List ℕ → Result (Kind × List ℕ) EntryFault
kind_behind version bytes =
    if int_eq version VERSION
    then and_then (field_of (signed_at w16 bytes)) (λ kind. known_kind (kind_with kind.0) kind.1)
    else Err UnknownVersion

-- The version, and then the kind.
unfoldable pub kind_at : List ℕ → Result (Kind × List ℕ) EntryFault
kind_at bytes = and_then (field_of (signed_at w16 bytes)) (λ version. kind_behind version.0 version.1)

-- Whether a body has a length that the body of a frame has.
abbrev pub is_body : List ℕ → Bool
is_body body = nat_le SMALLEST_BODY (length body) && nat_le (length body) LARGEST_BODY

-- A frame, whose body is all that is left.
unfoldable pub frame_at : List ℕ → Result FrameValue EntryFault
frame_at bytes =
    and_then (number_at w32 bytes) (λ connection.
    and_then (number_at w64 connection.1) (λ number.
    and_then (number_at w64 number.1) (λ moment.
    if is_body moment.1
    then Ok (record { connection = connection.0; number = number.0; moment = moment.0; body = moment.1 })
    else Err BadBody)))

-- A topic of an image.
unfoldable pub topic_at : List ℕ → Read Entry
topic_at =
    made_at (λ x. record { name = x.0; id = x.1.0; count = x.1.1.0 })
    (pair_at compact_string_at (pair_at uuid_at (pair_at (signed_at w32) nothing_at)))

-- What an entry of the kind brings, all of the bytes.
unfoldable pub content_at : Kind → List ℕ → Result ContentValue EntryFault
content_at Frame bytes = and_then (frame_at bytes) (λ f. Ok (frame f))
content_at Tick bytes = and_then (number_at w64 bytes) (λ moment. whole (tick moment.0) moment.1)
content_at Image bytes = and_then (field_of (array_at topic_at bytes)) (λ topics. whole (image topics.0) topics.1)
content_at Leads bytes = whole leads bytes

-- An entry, all of the bytes.
unfoldable pub entry_at : List ℕ → Result EntryValue EntryFault
entry_at bytes =
    and_then (kind_at bytes) (λ kind.
    and_then (number_at w32 kind.1) (λ leadership.
    and_then (content_at kind.0 leadership.1) (λ content.
    Ok (record { leadership = leadership.0; content = content }))))

-- ---- what a call answers

-- What a function returned, seen by view, is what reading gives.
abbrev pub Gives : {X Y : Type 0} → (X → Y) → Result X EntryFault → Result Y EntryFault → Type 0
Gives view (Ok x) read = read ≡ Ok (view x)
Gives view (Err e) read = read ≡ Err e

-- The same, unless memory ran out.
abbrev pub GivesInMemory : {X Y : Type 0} → (X → Y) → Result X EntryFault → Result Y EntryFault → Type 0
GivesInMemory view (Ok x) read = read ≡ Ok (view x)
GivesInMemory view (Err e) read = e ≢ NoMemory → read ≡ Err e

-- It is this value, seen by view, unless memory was wanting.
abbrev pub AnswersInMemory : {X Y : Type 0} → (X → Y) → Result X EntryFault → Y → Type 0
AnswersInMemory view (Ok x) y = view x ≡ y
AnswersInMemory view (Err e) y = e ≡ NoMemory

-- It is this fault, unless memory was wanting.
abbrev pub FailsInMemory : {X : Type 0} → EntryFault → Result X EntryFault → Type 0
FailsInMemory fault r = (r ≡ Err fault) ⊎ (r ≡ Err NoMemory)
