-- A topic of an image is a field, and so are the topics of an image; and which numbers a field has.
use Rattle.std.proofs.Common.{ℕ, pos, ◌<◌, ◌^◌, List, All, length, get_or, subst, refl, arith}
use Rattle.std.specs.Prelude.{FitsSigned}
use Rattle.std.specs.Int.{w16, w32, w64}
use Rattle.std.proofs.lemmas.List.{get_or-map, length-map}
use Rattle.flex_wire.specs.Laws.{IsField}
use Rattle.flex_wire.specs.Spelling.{int16, int32, int64}
use Rattle.flex_wire.specs.Reading.{signed_at}
use Rattle.flex_wire.specs.Composed.{array, array_at, FitsArray}
use Rattle.flex_wire.proofs.IntLaws.{signed_is_field, wide16, wide32, wide64, uuid_is_field}
use Rattle.flex_wire.proofs.TextLaws.{compact_string_is_field}
use Rattle.flex_wire.proofs.ComposedLaws.{nothing_is_field, pair_is_field, made_is_field, refitted_is_field, array_is_field}
use Rattle.topic_meta.specs.declared.topic.TopicEntry.{TopicEntry}
use Rattle.topic_meta.specs.Images.{entry_of, entries_of}
use Rattle.replica_entries.specs.Spelling.{topic_fields, FitsTopic}
use Rattle.replica_entries.specs.Reading.{topic_at}

pub int16_is_field : IsField (FitsSigned w16) int16 (signed_at w16)
int16_is_field = signed_is_field w16 wide16

pub int32_is_field : IsField (FitsSigned w32) int32 (signed_at w32)
int32_is_field = signed_is_field w32 wide32

pub int64_is_field : IsField (FitsSigned w64) int64 (signed_at w64)
int64_is_field = signed_is_field w64 wide64

pub topic_is_field : IsField FitsTopic topic_fields topic_at
unfolding topic_fields topic_at
topic_is_field =
    refitted_is_field
    (λ t f. record { name = f.0; id = f.1.0; count = f.1.1.0 })
    (λ t f. (f.name, (f.id, (f.count, tt))))
    (made_is_field _ (λ t. (t.name, (t.id, (t.count, tt)))) (λ _. refl) (λ _. refl)
    (pair_is_field compact_string_is_field (pair_is_field uuid_is_field (pair_is_field int32_is_field nothing_is_field))))

pub topics_are_field : IsField (FitsArray FitsTopic) (array topic_fields) (array_at topic_at)
topics_are_field = array_is_field topic_is_field

-- ---- numbers

pub fits32 : (n : ℕ) → n < 2 ^ 31 → FitsSigned w32 (pos n)
fits32 n lt = record { sfits = omega (arith, lt) }

pub fits64 : (n : ℕ) → n < 2 ^ 63 → FitsSigned w64 (pos n)
fits64 n lt = record { sfits = omega (arith, lt) }

pub below32 : (n : ℕ) → FitsSigned w32 (pos n) → n < 2 ^ 31
below32 n fits = omega (arith, fits.sfits)

pub below64 : (n : ℕ) → FitsSigned w64 (pos n) → n < 2 ^ 63
below64 n fits = omega (arith, fits.sfits)

-- ---- topics in a slice

pub topic_fits : (topics : List TopicEntry) (i : ℕ) (d : TopicEntry) → i < length topics → All FitsTopic (entries_of topics) → FitsTopic (entry_of (get_or topics i d))
topic_fits topics i d lt all =
    subst FitsTopic (get_or-map entry_of topics i d (entry_of d) lt) (all i (entry_of d) (omega (arith, length-map topics entry_of)))
