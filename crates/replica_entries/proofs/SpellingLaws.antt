-- What is spelled is read, and what a head or bytes left behind are read as.
use Rattle.std.proofs.Common.{◌≡◌, ◌≢◌, ℕ, ℤ, pos, ◌<◌, ◌^◌, Bool, true, false, cond, List, [], ◌∷◌, ◌++◌, length, Option, Some, Result, Ok, Err, refl, sym, ap, subst, ◌∙◌, arith, rules}
use Rattle.std.specs.Prelude.{MatchResult, FitsSigned, nat_le}
use Rattle.std.specs.Int.{Width, w16, w32, w64}
use Rattle.std.specs.Ordering.{int_eq}
use Rattle.std.proofs.lemmas.Bool.{le-leb, ne_eqb, and_from}
use Rattle.std.proofs.lemmas.Bool.Decides.{Decides-int_eq}
use Rattle.std.proofs.lemmas.List.{append-nil}
use Rattle.flex_wire.specs.declared.fault.WireFault.TheVariants as wire
use Rattle.flex_wire.specs.Spelling.{int16, int32, int64, signed}
use Rattle.flex_wire.specs.Reading.{signed_at}
use Rattle.flex_wire.specs.Laws.{AreBytes, IsField}
use Rattle.group_types.specs.Frames.{IsBody}
use Rattle.group_types.specs.Limits.{SMALLEST_BODY, LARGEST_BODY}
use Rattle.replica_entries.specs.declared.kind.Kind.{Kind}
use Rattle.replica_entries.specs.declared.kind.Kind.TheVariants.{Frame, Tick, Image, Leads}
use Rattle.replica_entries.specs.declared.fault.EntryFault.{EntryFault}
use Rattle.replica_entries.specs.declared.fault.EntryFault.TheVariants.{Wire, UnknownVersion, UnknownKind, BadNumber, BadBody, LeftOver, NoMemory}
use Rattle.replica_entries.specs.Kinds.{VERSION, kind_number, kind_with}
use Rattle.replica_entries.specs.Values.{FrameValue, ContentValue, frame, tick, image, leads, EntryValue, kind_of}
use Rattle.replica_entries.specs.Spelling.{frame_fields, content_fields, entry_fields, FitsFrameNumbers, FitsNumbers, FitsBody, FitsTopics, FitsEntry, SpellsEntry}
use Rattle.replica_entries.specs.Heads.{HasUnknownVersion, HasUnknownKind, HasLeftOver}
use Rattle.replica_entries.specs.Misfits.{Misfits}
use Rattle.replica_entries.specs.Reading.{and_then, whole, number_at, known_kind, kind_at, is_body, frame_at, content_at, entry_at}
use Rattle.replica_entries.proofs.TopicLaws.{int16_is_field, int32_is_field, int64_is_field, topics_are_field, fits32, fits64}
use Rattle.replica_entries.proofs.EntryLaws.{BeginsWith, IsTrueOf, outcome, entry_parts}

-- ---- the head

int16_again : (z : ℤ) (bytes rest : List ℕ) → FitsSigned w16 z → bytes ≡ int16 z ++ rest → signed_at w16 bytes ≡ Ok (z, rest)
int16_again z bytes rest fits is = ap (signed_at w16) is ∙ int16_is_field.again z rest fits

version_fits : FitsSigned w16 VERSION
version_fits = search rules

kind_fits : (kind : Kind) → FitsSigned w16 (kind_number kind)
kind_fits Frame = search rules
kind_fits Tick = search rules
kind_fits Image = search rules
kind_fits Leads = search rules

kind_named : (kind : Kind) → kind_with (kind_number kind) ≡ Some kind
kind_named Frame = refl
kind_named Tick = refl
kind_named Image = refl
kind_named Leads = refl

-- a number that stands behind the version
behind_again : (bytes : List ℕ) (z : ℤ) (rest : List ℕ) → FitsSigned w16 z → bytes ≡ int16 VERSION ++ (int16 z ++ rest) → kind_at bytes ≡ known_kind (kind_with z) rest
unfolding kind_at
behind_again bytes z rest fits is =
    rw (int16_again VERSION bytes (int16 z ++ rest) version_fits is) (rw (int16_again z (int16 z ++ rest) rest fits refl) refl)

kind_again : (kind : Kind) (bytes rest : List ℕ) → BeginsWith kind rest bytes → kind_at bytes ≡ Ok (kind, rest)
kind_again kind bytes rest begins =
    behind_again bytes (kind_number kind) rest (kind_fits kind) begins ∙ ap (λ (o : Option Kind). known_kind o rest) (kind_named kind)

pub unknown_kind_again : (bytes : List ℕ) → HasUnknownKind bytes → kind_at bytes ≡ Err UnknownKind
unknown_kind_again bytes h = behind_again bytes h.0 h.1 h.2 h.4 ∙ ap (λ (o : Option Kind). known_kind o h.1) h.3

not_chosen : {A : Type 0} (b : Bool) (x y : A) → (b ≡ true → ⊥) → cond b x y ≡ y
not_chosen true x y e = absurd (e refl)
not_chosen false x y e = refl

pub unknown_version_again : (bytes : List ℕ) → HasUnknownVersion bytes → kind_at bytes ≡ Err UnknownVersion
unfolding kind_at
unknown_version_again bytes h =
    rw (int16_again h.0 bytes h.1 h.2 h.4) (not_chosen (int_eq h.0 VERSION) _ (Err UnknownVersion) (λ e. h.3 ((Decides-int_eq h.0 VERSION).0 e)))

-- ---- what an entry brings

number_again : (w : Width) → IsField (FitsSigned w) (signed w) (signed_at w) → (n : ℕ) (rest : List ℕ) → FitsSigned w (pos n) → number_at w (signed w (pos n) ++ rest) ≡ Ok (n, rest)
unfolding number_at
number_again w field n rest fits = rw (field.again (pos n) rest fits) refl

from_body : (body : List ℕ) → IsBody body → is_body body ≡ true
from_body body is = and_from (nat_le SMALLEST_BODY (length body)) (nat_le (length body) LARGEST_BODY) (le-leb SMALLEST_BODY (length body) is.0) (le-leb (length body) LARGEST_BODY is.1)

frame_spelled : (f : FrameValue) → frame_fields f ≡ int32 (pos f.connection) ++ (int64 (pos f.number) ++ (int64 (pos f.moment) ++ f.body))
unfolding frame_fields
frame_spelled f = ap (λ (l : List ℕ). int32 (pos f.connection) ++ (int64 (pos f.number) ++ (int64 (pos f.moment) ++ l))) (append-nil f.body)

frame_again : (f : FrameValue) → FitsFrameNumbers f → IsBody f.body → frame_at (frame_fields f) ≡ Ok f
unfolding frame_at
frame_again f fits body =
    let after = int64 (pos f.number) ++ (int64 (pos f.moment) ++ f.body) in
    rw (frame_spelled f) (rw (number_again w32 int32_is_field f.connection after (fits32 f.connection fits.connection))
    (rw (number_again w64 int64_is_field f.number (int64 (pos f.moment) ++ f.body) (fits64 f.number fits.number))
    (rw (number_again w64 int64_is_field f.moment f.body (fits64 f.moment fits.moment))
    (rw (from_body f.body body) refl))))

-- what an entry brings and isn't a frame, with bytes behind it
followed : (content : ContentValue) (rest : List ℕ) → FitsNumbers content → FitsTopics content → kind_of content ≢ Frame → content_at (kind_of content) (content_fields content ++ rest) ≡ whole content rest
unfolding content_at content_fields
followed (frame f) rest numbers topics other = absurd (other refl)
followed (tick moment) rest numbers topics other = rw (number_again w64 int64_is_field moment rest (fits64 moment numbers)) refl
followed (image list) rest numbers topics other = rw (topics_are_field.again list rest topics) refl
followed leads rest numbers topics other = refl

alone : (content : ContentValue) → FitsNumbers content → FitsTopics content → kind_of content ≢ Frame → content_at (kind_of content) (content_fields content) ≡ Ok content
alone content numbers topics other =
    ap (content_at (kind_of content)) (sym (append-nil (content_fields content))) ∙ followed content [] numbers topics other

content_again : (content : ContentValue) → FitsNumbers content → FitsBody content → FitsTopics content → content_at (kind_of content) (content_fields content) ≡ Ok content
unfolding content_at content_fields
content_again (frame f) numbers body topics = rw (frame_again f numbers body) refl
content_again (tick moment) numbers body topics = alone (tick moment) numbers topics (λ same. absurd cc)
content_again (image list) numbers body topics = alone (image list) numbers topics (λ same. absurd cc)
content_again leads numbers body topics = alone leads numbers topics (λ same. absurd cc)

-- ---- the whole entry

-- bytes that begin with all but what the entry brings
entry_again : (v : EntryValue) (bytes tail : List ℕ) (r : Result ContentValue EntryFault) → v.leadership < 2 ^ 31 → bytes ≡ int16 VERSION ++ (int16 (kind_number (kind_of v.content)) ++ (int32 (pos v.leadership) ++ tail)) → content_at (kind_of v.content) tail ≡ r → entry_at bytes ≡ and_then r (λ content. Ok (record { leadership = v.leadership; content = content }))
unfolding entry_at
entry_again v bytes tail r lt is e =
    rw (kind_again (kind_of v.content) bytes (int32 (pos v.leadership) ++ tail) is)
    (rw (number_again w32 int32_is_field v.leadership tail (fits32 v.leadership lt)) (rw e refl))

-- an entry alone
parts_alone : (v : EntryValue) → entry_fields v ≡ int16 VERSION ++ (int16 (kind_number (kind_of v.content)) ++ (int32 (pos v.leadership) ++ content_fields v.content))
parts_alone v =
    sym (append-nil (entry_fields v))
    ∙ (entry_parts v.leadership v.content []
    ∙ ap (λ (l : List ℕ). int16 VERSION ++ (int16 (kind_number (kind_of v.content)) ++ (int32 (pos v.leadership) ++ l))) (append-nil (content_fields v.content)))

pub spells_read : (v : EntryValue) (bytes : List ℕ) → SpellsEntry v bytes → entry_at bytes ≡ Ok v
spells_read v bytes spells =
    entry_again v bytes (content_fields v.content) (Ok v.content) spells.fits.leadership (spells.bytes ∙ parts_alone v)
    (content_again v.content spells.fits.numbers spells.fits.body spells.fits.topics)

left_whole : {A : Type 0} (x : A) (rest : List ℕ) → rest ≢ [] → whole x rest ≡ Err LeftOver
left_whole x [] other = absurd (other refl)
left_whole x (b ∷ rest) other =
    let some : (length (b ∷ rest) ≡ 0) → ⊥ = λ none. absurd (omega arith) in
    ap (λ (t : Bool). cond t (Ok x) (Err LeftOver)) (ne_eqb (length (b ∷ rest)) 0 some)

pub left_over_again : (bytes : List ℕ) → HasLeftOver bytes → entry_at bytes ≡ Err LeftOver
left_over_again bytes h =
    entry_again h.0 bytes (content_fields h.0.content ++ h.1) (Err LeftOver) h.2.leadership (h.5 ∙ entry_parts h.0.leadership h.0.content h.1)
    (followed h.0.content h.1 h.2.numbers h.2.topics h.3 ∙ left_whole h.0.content h.1 h.4)

-- ---- what an answer says of the bytes

is_true : (bytes : List ℕ) (r : Result EntryValue EntryFault) (fault : EntryFault) → MatchResult r (λ v. SpellsEntry v bytes) (IsTrueOf bytes) → r ≡ Err fault → IsTrueOf bytes fault
is_true bytes (Ok v) fault given e = absurd cc
is_true bytes (Err d) fault given e = let same : d ≡ fault = cc in subst (IsTrueOf bytes) same given

-- a fault that was read is one that the bytes have
pub fault_is_true : (bytes : List ℕ) (fault : EntryFault) → AreBytes bytes → entry_at bytes ≡ Err fault → IsTrueOf bytes fault
fault_is_true bytes fault are = is_true bytes (entry_at bytes) fault (outcome bytes are).holds

does_spell : (bytes : List ℕ) (r : Result EntryValue EntryFault) (v : EntryValue) → MatchResult r (λ v. SpellsEntry v bytes) (IsTrueOf bytes) → r ≡ Ok v → SpellsEntry v bytes
does_spell bytes (Ok w) v given e = let same : w ≡ v = cc in subst (λ (x : EntryValue). SpellsEntry x bytes) same given
does_spell bytes (Err d) v given e = absurd cc

-- an entry that was read is spelled by the bytes
pub read_spells : (bytes : List ℕ) (v : EntryValue) → AreBytes bytes → entry_at bytes ≡ Ok v → SpellsEntry v bytes
read_spells bytes v are = does_spell bytes (entry_at bytes) v (outcome bytes are).holds

-- ---- entries that have no spelling

pub no_misfit : (fault : EntryFault) (v : EntryValue) → FitsEntry v → Misfits fault v → ⊥
no_misfit (Wire wire.TooLong) v fits h = h fits.topics
no_misfit (Wire wire.Short) v fits h = h
no_misfit (Wire wire.NotShortest) v fits h = h
no_misfit (Wire wire.NotUtf8) v fits h = h
no_misfit (Wire wire.TagOrder) v fits h = h
no_misfit (Wire wire.BadCount) v fits h = h
no_misfit (Wire wire.BadMark) v fits h = h
no_misfit (Wire wire.NoMemory) v fits h = h
no_misfit UnknownVersion v fits h = h
no_misfit UnknownKind v fits h = h
no_misfit BadNumber v fits h = h (fits.leadership, fits.numbers)
no_misfit BadBody v fits h = h fits.body
no_misfit LeftOver v fits h = h
no_misfit NoMemory v fits h = h
