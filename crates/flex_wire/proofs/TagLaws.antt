-- The law of the tagged fields.
use Rattle.std.proofs.Common.{◌≡◌, ℕ, zero, suc, ◌+◌, ◌<◌, true, List, [], ◌∷◌, ◌++◌, length, map, get_or, Option, Some, None, Ok, refl, sym, ap, subst, ◌∙◌, append_assoc, arith}
use Rattle.std.specs.Prelude.{All}
use Rattle.std.specs.List.{flat_map, AllByRecursion}
use Rattle.std.specs.List.Sorted.{IsStrictlyIncreasing}
use Rattle.std.proofs.lemmas.Bool.{ltb-true, lt-ltb}
use Rattle.std.proofs.lemmas.List.{get_or-map, length-map}
use Rattle.std.proofs.lemmas.List.Concat.{flat_map-cons}
use Rattle.std.proofs.lemmas.List.Elements.{All-from_recursion, recursion_from_All}
use Rattle.flex_wire.specs.declared.fault.WireFault.TheVariants.{TagOrder}
use Rattle.flex_wire.specs.declared.tagged.TaggedField.{TaggedField}
use Rattle.flex_wire.specs.Tags.{tagged, all_tagged}
use Rattle.flex_wire.specs.Spelling.{varint, Tagged, tagged_field, tagged_fields, FitsTaggedField, FitsTaggedFields}
use Rattle.flex_wire.specs.Reading.{◌>>=◌, demand, bytes_at, varint_at, comes_after, tagged_field_at, tagged_fields_behind, tagged_fields_at}
use Rattle.flex_wire.specs.Laws.{AreBytes, IsField}
use Rattle.flex_wire.proofs.Fields.{bind_ok, demand_ok, ok_is, AreBytes-rest}
use Rattle.flex_wire.proofs.IntLaws.{bytes_taken, bytes_again}
use Rattle.flex_wire.proofs.VarintLaws.{varint_is_field}

-- ---- tags that rise

abbrev pub tags_of : List Tagged → List ℕ
tags_of fields = map (λ field. field.tag) fields

-- the tags rise, the first behind the last of those before
abbrev pub RiseBehind : Option ℕ → List Tagged → Type 0
RiseBehind last [] = Unit {0}
RiseBehind last (field ∷ fields) = (comes_after last field.tag ≡ true) × RiseBehind (Some field.tag) fields

increasing_more : (x y : ℕ) (xs : List ℕ) → x < y → IsStrictlyIncreasing (y ∷ xs) → IsStrictlyIncreasing (x ∷ y ∷ xs)
increasing_more x y xs lt up zero below = lt
increasing_more x y xs lt up (suc k) below =
    let e : suc k + 1 ≡ suc (k + 1) = omega arith in
    rw e (up k (omega arith))

increasing_rest : (x : ℕ) (xs : List ℕ) → IsStrictlyIncreasing (x ∷ xs) → IsStrictlyIncreasing xs
increasing_rest x xs up k below =
    let e : suc k + 1 ≡ suc (k + 1) = omega arith in
    rw e at (up (suc k) (omega arith))

increasing_from : (last : ℕ) (fields : List Tagged) → RiseBehind (Some last) fields → IsStrictlyIncreasing (last ∷ tags_of fields)
increasing_from last [] rise = λ k below. absurd (omega arith)
increasing_from last (field ∷ fields) rise = increasing_more last field.tag (tags_of fields) (ltb-true _ _ rise.0) (increasing_from field.tag fields rise.1)

rise_from : (last : ℕ) (fields : List Tagged) → IsStrictlyIncreasing (last ∷ tags_of fields) → RiseBehind (Some last) fields
rise_from last [] up = tt
rise_from last (field ∷ fields) up = (lt-ltb _ _ (up 0 (omega arith)), rise_from field.tag fields (increasing_rest last (field.tag ∷ tags_of fields) up))

increasing_all : (fields : List Tagged) → RiseBehind None fields → IsStrictlyIncreasing (tags_of fields)
increasing_all [] rise = λ k below. absurd (omega arith)
increasing_all (field ∷ fields) rise = increasing_from field.tag fields rise.1

rise_all : (fields : List Tagged) → IsStrictlyIncreasing (tags_of fields) → RiseBehind None fields
rise_all [] up = tt
rise_all (field ∷ fields) up = (refl, rise_from field.tag fields up)

-- ---- a field, and those behind it

-- what a reader took from the front
pub record IsTaggedOf (last : Option ℕ) (bytes : List ℕ) (p : Tagged × List ℕ) : Type 0 where
  pub after : comes_after last p.0.tag ≡ true
  pub fits : FitsTaggedField p.0
  pub parts : bytes ≡ tagged_field p.0 ++ p.1

tagged_joined : (bytes after_tag after_size rest value : List ℕ) (tag size : ℕ) → bytes ≡ varint tag ++ after_tag → after_tag ≡ varint size ++ after_size → length value ≡ size → after_size ≡ value ++ rest → bytes ≡ (varint tag ++ (varint (length value) ++ value)) ++ rest
tagged_joined bytes after_tag after_size rest value tag size one two len three =
    one ∙ (rw (two, ← len, three) (ap (λ (l : List ℕ). varint tag ++ l) (sym (append_assoc (varint (length value)) value rest)) ∙ sym (append_assoc (varint tag) (varint (length value) ++ value) rest)))

tagged_field_taken : (last : Option ℕ) (bytes : List ℕ) (p : Tagged × List ℕ) → AreBytes bytes → tagged_field_at last bytes ≡ Ok p → IsTaggedOf last bytes p
unfolding tagged_field_at tagged_field
tagged_field_taken last bytes p are e =
    let a = bind_ok (varint_at bytes) (λ tag. demand (comes_after last tag.0) TagOrder >>= λ _. varint_at tag.1 >>= λ size. bytes_at size.0 size.1 >>= λ value. Ok (record { tag = tag.0; value = value.0 }, value.1)) p e in
    let d = demand_ok (comes_after last a.0.0) TagOrder (varint_at a.0.1 >>= λ size. bytes_at size.0 size.1 >>= λ value. Ok (record { tag = a.0.0; value = value.0 }, value.1)) p a.2 in
    let b = bind_ok (varint_at a.0.1) (λ size. bytes_at size.0 size.1 >>= λ value. Ok (record { tag = a.0.0; value = value.0 }, value.1)) p d.1 in
    let c = bind_ok (bytes_at b.0.0 b.0.1) (λ value. Ok (record { tag = a.0.0; value = value.0 }, value.1)) p b.2 in
    let tag = varint_is_field.taken bytes a.0.0 a.0.1 are a.1 in
    let size = varint_is_field.taken a.0.1 b.0.0 b.0.1 (AreBytes-rest (varint a.0.0) a.0.1 (subst AreBytes tag.1 are)) b.1 in
    let value = bytes_taken b.0.0 b.0.1 c.0.0 c.0.1 c.1 in
    let made : Tagged × List ℕ = (record { tag = a.0.0; value = c.0.0 }, c.0.1) in
    subst (IsTaggedOf last bytes) {x = made} (ok_is made p c.2) (record { after = d.0; fits = record { tag = tag.0; size = omega (arith, value.0, size.0) }; parts = tagged_joined bytes a.0.1 b.0.1 c.0.1 c.0.0 a.0.0 b.0.0 tag.1 size.1 value.0 value.1 })

tagged_field_again : (last : Option ℕ) (field : Tagged) (rest : List ℕ) → comes_after last field.tag ≡ true → FitsTaggedField field → tagged_field_at last (tagged_field field ++ rest) ≡ Ok (field, rest)
unfolding tagged_field_at tagged_field
tagged_field_again last field rest after fits =
    let regrouped : (varint field.tag ++ (varint (length field.value) ++ field.value)) ++ rest ≡ varint field.tag ++ (varint (length field.value) ++ (field.value ++ rest)) = append_assoc (varint field.tag) (varint (length field.value) ++ field.value) rest ∙ ap (λ (l : List ℕ). varint field.tag ++ l) (append_assoc (varint (length field.value)) field.value rest) in
    ap (tagged_field_at last) regrouped
    ∙ rw (varint_is_field.again field.tag (varint (length field.value) ++ (field.value ++ rest)) fits.tag, after, varint_is_field.again (length field.value) (field.value ++ rest) fits.size, bytes_again (length field.value) field.value rest refl) refl

pub record AreTaggedOf (last : Option ℕ) (count : ℕ) (bytes : List ℕ) (p : List Tagged × List ℕ) : Type 0 where
  pub len : length p.0 ≡ count
  pub rise : RiseBehind last p.0
  pub each : AllByRecursion FitsTaggedField p.0
  pub parts : bytes ≡ flat_map tagged_field p.0 ++ p.1

fields_joined : (bytes after rest : List ℕ) (first : Tagged) (others : List Tagged) → bytes ≡ tagged_field first ++ after → after ≡ flat_map tagged_field others ++ rest → bytes ≡ flat_map tagged_field (first ∷ others) ++ rest
fields_joined bytes after rest first others one two =
    one ∙ (ap (λ (l : List ℕ). tagged_field first ++ l) two ∙ (sym (append_assoc (tagged_field first) (flat_map tagged_field others) rest) ∙ ap (λ (l : List ℕ). l ++ rest) (sym (flat_map-cons tagged_field first others))))

fields_taken : (last : Option ℕ) (count : ℕ) (bytes : List ℕ) (p : List Tagged × List ℕ) → AreBytes bytes → tagged_fields_behind last count bytes ≡ Ok p → AreTaggedOf last count bytes p
unfolding tagged_fields_behind
fields_taken last zero bytes p are e =
    subst (AreTaggedOf last 0 bytes) (ok_is ([], bytes) p e) (record { len = refl; rise = tt; each = tt; parts = refl })
fields_taken last (suc more) bytes p are e =
    let a = bind_ok (tagged_field_at last bytes) (λ first. tagged_fields_behind (Some first.0.tag) more first.1 >>= λ others. Ok (first.0 ∷ others.0, others.1)) p e in
    let b = bind_ok (tagged_fields_behind (Some a.0.0.tag) more a.0.1) (λ others. Ok (a.0.0 ∷ others.0, others.1)) p a.2 in
    let first = tagged_field_taken last bytes a.0 are a.1 in
    let others = fields_taken (Some a.0.0.tag) more a.0.1 b.0 (AreBytes-rest (tagged_field a.0.0) a.0.1 (subst AreBytes first.parts are)) b.1 in
    subst (AreTaggedOf last (suc more) bytes) (ok_is (a.0.0 ∷ b.0.0, b.0.1) p b.2) (record { len = ap suc others.len; rise = (first.after, others.rise); each = (first.fits, others.each); parts = fields_joined bytes a.0.1 b.0.1 a.0.0 b.0.0 first.parts others.parts })

fields_again : (last : Option ℕ) (fields : List Tagged) (rest : List ℕ) → RiseBehind last fields → AllByRecursion FitsTaggedField fields → tagged_fields_behind last (length fields) (flat_map tagged_field fields ++ rest) ≡ Ok (fields, rest)
unfolding tagged_fields_behind
fields_again last [] rest rise each = refl
fields_again last (first ∷ others) rest rise each =
    let regrouped : flat_map tagged_field (first ∷ others) ++ rest ≡ tagged_field first ++ (flat_map tagged_field others ++ rest) = ap (λ (x : List ℕ). x ++ rest) (flat_map-cons tagged_field first others) ∙ append_assoc (tagged_field first) (flat_map tagged_field others) rest in
    ap (tagged_fields_behind last (suc (length others))) regrouped
    ∙ rw (tagged_field_again last first (flat_map tagged_field others ++ rest) rise.0 each.0, fields_again (Some first.tag) others rest rise.1 each.1) refl

-- ---- all of them

tagged_fields_joined : (bytes after : List ℕ) (count : ℕ) (p : List Tagged × List ℕ) → bytes ≡ varint count ++ after → length p.0 ≡ count → after ≡ flat_map tagged_field p.0 ++ p.1 → bytes ≡ tagged_fields p.0 ++ p.1
unfolding tagged_fields
tagged_fields_joined bytes after count p head len tail =
    head ∙ (rw (← len, tail) (sym (append_assoc (varint (length p.0)) (flat_map tagged_field p.0) p.1)))

tagged_fields_taken : (bytes : List ℕ) (p : List Tagged × List ℕ) → AreBytes bytes → tagged_fields_at bytes ≡ Ok p → FitsTaggedFields p.0 × (bytes ≡ tagged_fields p.0 ++ p.1)
unfolding tagged_fields_at
tagged_fields_taken bytes p are e =
    let a = bind_ok (varint_at bytes) (λ count. tagged_fields_behind None count.0 count.1) p e in
    let count = varint_is_field.taken bytes a.0.0 a.0.1 are a.1 in
    let all = fields_taken None a.0.0 a.0.1 p (AreBytes-rest (varint a.0.0) a.0.1 (subst AreBytes count.1 are)) a.2 in
    (record { count = omega (arith, all.len, count.0); each = All-from_recursion FitsTaggedField p.0 all.each; rising = increasing_all p.0 all.rise }, tagged_fields_joined bytes a.0.1 a.0.0 p count.1 all.len all.parts)

tagged_fields_again : (fields : List Tagged) (rest : List ℕ) → FitsTaggedFields fields → tagged_fields_at (tagged_fields fields ++ rest) ≡ Ok (fields, rest)
unfolding tagged_fields_at tagged_fields
tagged_fields_again fields rest fits =
    ap tagged_fields_at (append_assoc (varint (length fields)) (flat_map tagged_field fields) rest)
    ∙ rw (varint_is_field.again (length fields) (flat_map tagged_field fields ++ rest) fits.count) (fields_again None fields rest (rise_all fields fits.rising) (recursion_from_All FitsTaggedField fields fits.each))

pub tagged_fields_is_field : IsField FitsTaggedFields tagged_fields tagged_fields_at
tagged_fields_is_field = record {
  taken = λ bytes fields rest are e. tagged_fields_taken bytes (fields, rest) are e;
  again = tagged_fields_again;
}

-- no fields fit
pub no_tags_fit : FitsTaggedFields []
no_tags_fit = record { count = omega arith; each = λ k d below. absurd (omega arith); rising = λ k below. absurd (omega arith) }

-- each of the fields of a slice fits
pub tagged_fits : (fields : List TaggedField) (i : ℕ) (d : TaggedField) → i < length fields → All FitsTaggedField (all_tagged fields) → FitsTaggedField (tagged (get_or fields i d))
tagged_fits fields i d lt all =
    subst FitsTaggedField (get_or-map tagged fields i d (tagged d) lt) (all i (tagged d) (omega (arith, length-map fields tagged)))
