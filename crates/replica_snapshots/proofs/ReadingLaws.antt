-- What is spelled is read: the law of each reader, of those of its parts.
use Rattle.std.proofs.Common.{◌≡◌, ◌≢◌, ℕ, suc, ℤ, pos, ◌+◌, ◌-◌, ◌<◌, ◌≤◌, Bool, true, false, List, [], ◌∷◌, ◌++◌, length, map, Some, None, Ok, refl, sym, ap, ◌∙◌, append_assoc, arith}
use lib.Dec.{T}
use Rattle.std.proofs.lemmas.Bool.{ltb-true}
use Rattle.std.proofs.lemmas.List.{append-nil}
use Rattle.std.specs.Prelude.{FitsSigned, negsuc, ◌<ℤ◌}
use Rattle.std.specs.List.{flat_map, AllByRecursion}
use Rattle.std.specs.Int.{w16, w32, w64}
use Rattle.std.proofs.lemmas.List.Concat.{flat_map-cons}
use Rattle.std.proofs.lemmas.List.Elements.{recursion_from_All}
use Rattle.flex_wire.specs.Spelling.{int16, int32, int64, uuid, FitsUuid, array_count, FitsCount, compact_string, FitsText}
use Rattle.flex_wire.specs.Composed.{array, FitsArray}
use Rattle.flex_wire.specs.Reading.{Read, bytes_at}
use Rattle.flex_wire.specs.Laws.{IsField}
use Rattle.flex_wire.proofs.CountLaws.{array_count_is_field}
use Rattle.flex_wire.proofs.IntLaws.{signed_is_field, wide16, wide32, wide64, uuid_is_field, bytes_again}
use Rattle.flex_wire.proofs.TextLaws.{compact_string_is_field}
use Rattle.group_types.specs.Sets.{nothing, with_one}
use Rattle.group_types.specs.Topics.{Names}
use Rattle.replica_snapshots.specs.declared.fault.SnapshotFault.{SnapshotFault}
use Rattle.replica_snapshots.specs.declared.fault.SnapshotFault.TheVariants.{Wire, BadValue, Unsound, Respelled, TooLong, NoMemory}
use Rattle.replica_snapshots.specs.Reading.{Found, ◌>>=◌, wire, number_at, int16_at, int32_at, int64_at, id_at, count_at, text_at, each_at, list_at, names_into, natural}
use Rattle.replica_snapshots.specs.Spelling.{number64, FitsNumber}

-- what fits is read from the front of its spelling, and the bytes behind it are left
pub record IsRead {V : Type 0} (F : V → Type 0) (s : V → List ℕ) (read : List ℕ → Found V) : Type 0 where
  pub again : (v : V) (rest : List ℕ) → F v → read (s v ++ rest) ≡ Some (v, rest)

-- ---- what a call gives

only_memory : (fault : SnapshotFault) → (fault ≢ NoMemory → ⊥) → fault ≡ NoMemory
only_memory (Wire fault place) never = absurd (never (λ e. cc))
only_memory (BadValue place) never = absurd (never (λ e. cc))
only_memory (Unsound place) never = absurd (never (λ e. cc))
only_memory (Respelled place) never = absurd (never (λ e. cc))
only_memory TooLong never = absurd (never (λ e. cc))
only_memory NoMemory never = refl

-- a call that fails where something is to be read wants memory
pub stopped : {V : Type 0} {F : V → Type 0} {s : V → List ℕ} {read : List ℕ → Found V} → IsRead F s read → (bytes : List ℕ) (fault : SnapshotFault)
    → (fault ≢ NoMemory → read bytes ≡ None) → (v : V) (rest : List ℕ) → F v → bytes ≡ s v ++ rest → fault ≡ NoMemory
stopped {V} {read = read} law bytes fault gives v rest fits is =
    let found : read bytes ≡ Some (v, rest) = ap read is ∙ law.again v rest fits in
    only_memory fault (λ other. let none = sym (gives other) ∙ found in absurd cc)

-- what a call gives where something is to be read
pub taken : {V : Type 0} {F : V → Type 0} {s : V → List ℕ} {read : List ℕ → Found V} → IsRead F s read → (bytes : List ℕ) (w : V) (left : List ℕ)
    → read bytes ≡ Some (w, left) → (v : V) (rest : List ℕ) → F v → bytes ≡ s v ++ rest → (w ≡ v) × (left ≡ rest)
taken {V} {read = read} law bytes w left gives v rest fits is =
    let same : Some (w, left) ≡ Some (v, rest) = sym gives ∙ (ap read is ∙ law.again v rest fits) in
    let both : (w, left) ≡ (v, rest) = cc in
    (ap (λ (p : V × List ℕ). p.0) both, ap (λ (p : V × List ℕ). p.1) both)

-- ---- fields

of_field : {V : Type 0} {F : V → Type 0} {s : V → List ℕ} {read : List ℕ → Read V} → IsField F s read → IsRead F s (λ bytes. wire (read bytes))
of_field field = record { again = λ v rest fits. ap wire (field.again v rest fits) }

pub number_is_read : IsRead FitsNumber number64 number_at
unfolding number_at number64
number_is_read = record {
  again = λ v rest fits.
      let front : bytes_at 8 (number64 v ++ rest) ≡ Ok (number64 v, rest) = bytes_again 8 (number64 v) rest (wide64.len v) in
      rw front (ap (λ (n : ℕ). Some (n, rest)) (wide64.again v fits));
}

pub int16_is_read : IsRead (FitsSigned w16) int16 int16_at
int16_is_read = of_field (signed_is_field w16 wide16)

pub int32_is_read : IsRead (FitsSigned w32) int32 int32_at
int32_is_read = of_field (signed_is_field w32 wide32)

pub int64_is_read : IsRead (FitsSigned w64) int64 int64_at
int64_is_read = of_field (signed_is_field w64 wide64)

pub id_is_read : IsRead FitsUuid uuid id_at
id_is_read = of_field uuid_is_field

pub count_is_read : IsRead FitsCount array_count count_at
count_is_read = of_field array_count_is_field

pub text_is_read : IsRead FitsText compact_string text_at
text_is_read = of_field compact_string_is_field

-- ---- elements, one behind the other

-- what was read before, and what is still read
abbrev pub with_front : {V : Type 0} → List V → Found (List V) → Found (List V)
with_front front read = read >>= λ x. Some (front ++ x.0, x.1)

at_first : {V : Type 0} (read : Found (List V)) → with_front [] read ≡ read
at_first None = refl
at_first (Some x) = refl

regroup : {V : Type 0} (front : List V) (x : V) (read : Found (List V)) → with_front front (read >>= λ others. Some (x ∷ others.0, others.1)) ≡ with_front (front ++ x ∷ []) read
regroup {V} front x (Some others) = ap (λ (l : List V). Some (l, others.1)) (simp append_assoc)
regroup front x None = refl

each_none : {V : Type 0} (read : List ℕ → Found V) (bytes : List ℕ) → each_at read 0 bytes ≡ Some ([], bytes)
unfolding each_at
each_none read bytes = refl

each_more : {V : Type 0} (read : List ℕ → Found V) (count : ℕ) (bytes : List ℕ) → each_at read (suc count) bytes ≡ (read bytes >>= λ first. each_at read count first.1 >>= λ others. Some (first.0 ∷ others.0, others.1))
unfolding each_at
each_more read count bytes = refl

pub goes_on : {V : Type 0} (read : List ℕ → Found V) (front : List V) (count i : ℕ) (bytes : List ℕ) (x : V) (after : List ℕ) (total : Found (List V)) → i < count → read bytes ≡ Some (x, after)
    → with_front front (each_at read (count - i) bytes) ≡ total → with_front (front ++ x ∷ []) (each_at read (count - (i + 1)) after) ≡ total
goes_on read front count i bytes x after total lt taken so_far =
    let k : count - i ≡ suc (count - (i + 1)) = omega arith in
    let one : with_front front (each_at read (count - i) bytes) ≡ with_front (front ++ x ∷ []) (each_at read (count - (i + 1)) after) = rw (k, each_more read (count - (i + 1)) bytes, taken) (regroup front x (each_at read (count - (i + 1)) after)) in
    sym one ∙ so_far

pub fails : {V : Type 0} (read : List ℕ → Found V) (front : List V) (count i : ℕ) (bytes : List ℕ) (total : Found (List V)) → i < count → read bytes ≡ None
    → with_front front (each_at read (count - i) bytes) ≡ total → total ≡ None
fails read front count i bytes total lt fault so_far =
    let k : count - i ≡ suc (count - (i + 1)) = omega arith in
    let one : with_front front (each_at read (count - i) bytes) ≡ None = rw (k, each_more read (count - (i + 1)) bytes, fault) refl in
    sym so_far ∙ one

pub is_done : {V : Type 0} (read : List ℕ → Found V) (front : List V) (count i : ℕ) (bytes : List ℕ) (total : Found (List V)) → count ≤ i
    → with_front front (each_at read (count - i) bytes) ≡ total → total ≡ Some (front, bytes)
is_done {V} read front count i bytes total le so_far =
    let k : count - i ≡ 0 = omega arith in
    let one : with_front front (each_at read (count - i) bytes) ≡ Some (front, bytes) = rw (k, each_none read bytes) (ap (λ (l : List V). Some (l, bytes)) (append-nil front)) in
    sym so_far ∙ one

pub at_start : {V : Type 0} (read : List ℕ → Found V) (front : List V) (count : ℕ) (bytes : List ℕ) → front ≡ [] → with_front front (each_at read (count - 0) bytes) ≡ each_at read count bytes
at_start read front count bytes none = let k : count - 0 ≡ count = omega arith in rw (k, none) (at_first (each_at read count bytes))

-- elements that are spelled so are read, each as it is seen
each_again : {V E : Type 0} {F : E → Type 0} (s : E → List ℕ) (seen : E → V) (read : List ℕ → Found V) → ((e : E) (rest : List ℕ) → F e → read (s e ++ rest) ≡ Some (seen e, rest))
    → (elements : List E) (rest : List ℕ) → AllByRecursion F elements → each_at read (length elements) (flat_map s elements ++ rest) ≡ Some (map seen elements, rest)
unfolding each_at
each_again s seen read law [] rest fits = refl
each_again {V} {E} {F} s seen read law (first ∷ others) rest fits =
    let regrouped : flat_map s (first ∷ others) ++ rest ≡ s first ++ (flat_map s others ++ rest) = ap (λ (x : List ℕ). x ++ rest) (flat_map-cons s first others) ∙ append_assoc (s first) (flat_map s others) rest in
    ap (each_at read (suc (length others))) regrouped ∙ rw (law first (flat_map s others ++ rest) fits.0, each_again {F = F} s seen read law others rest fits.1) refl

pub list_again : {V E : Type 0} {F : E → Type 0} (s : E → List ℕ) (seen : E → V) (read : List ℕ → Found V) → ((e : E) (rest : List ℕ) → F e → read (s e ++ rest) ≡ Some (seen e, rest))
    → (elements : List E) (rest : List ℕ) → FitsArray F elements → list_at read (array s elements ++ rest) ≡ Some (map seen elements, rest)
list_again {V} {E} {F} s seen read law elements rest fits =
    ap (list_at read) (append_assoc (array_count (length elements)) (flat_map s elements) rest)
    ∙ rw (count_is_read.again (length elements) (flat_map s elements ++ rest) fits.0) (each_again {F = F} s seen read law elements rest (recursion_from_All F elements fits.1))

-- ---- names, one behind the other

names_none : (names : Names) (bytes : List ℕ) → names_into 0 names bytes ≡ Some (names, bytes)
unfolding names_into
names_none names bytes = refl

names_more : (count : ℕ) (names : Names) (bytes : List ℕ) → names_into (suc count) names bytes ≡ (text_at bytes >>= λ name. names_into count (with_one names name.0) name.1)
unfolding names_into
names_more count names bytes = refl

pub names_start : (count : ℕ) (names : Names) (bytes : List ℕ) → names ≡ nothing → names_into (count - 0) names bytes ≡ names_into count nothing bytes
names_start count names bytes none = let k : count - 0 ≡ count = omega arith in rw (k, none) refl

pub name_goes_on : (count i : ℕ) (names : Names) (bytes name after : List ℕ) (total : Found Names) → i < count → text_at bytes ≡ Some (name, after)
    → names_into (count - i) names bytes ≡ total → names_into (count - (i + 1)) (with_one names name) after ≡ total
name_goes_on count i names bytes name after total lt taken so_far =
    let k : count - i ≡ suc (count - (i + 1)) = omega arith in
    let one : names_into (count - i) names bytes ≡ names_into (count - (i + 1)) (with_one names name) after = rw (k, names_more (count - (i + 1)) names bytes, taken) refl in
    sym one ∙ so_far

pub name_fails : (count i : ℕ) (names : Names) (bytes : List ℕ) (total : Found Names) → i < count → text_at bytes ≡ None
    → names_into (count - i) names bytes ≡ total → total ≡ None
name_fails count i names bytes total lt fault so_far =
    let k : count - i ≡ suc (count - (i + 1)) = omega arith in
    let one : names_into (count - i) names bytes ≡ None = rw (k, names_more (count - (i + 1)) names bytes, fault) refl in
    sym so_far ∙ one

pub names_done : (count i : ℕ) (names : Names) (bytes : List ℕ) (total : Found Names) → count ≤ i
    → names_into (count - i) names bytes ≡ total → total ≡ Some (names, bytes)
names_done count i names bytes total le so_far =
    let k : count - i ≡ 0 = omega arith in
    let one : names_into (count - i) names bytes ≡ Some (names, bytes) = rw (k, names_none names bytes) refl in
    sym so_far ∙ one

-- ---- numbers that aren't below 0

pub is_natural : (z : ℤ) (n : ℕ) (rest : List ℕ) → pos n ≡ z → natural z rest ≡ Some (n, rest)
is_natural z n rest is = ap (λ (y : ℤ). natural y rest) (sym is)

true_of : (b : Bool) → T b → b ≡ true
true_of true so = refl
true_of false so = absurd so

pub not_natural : (z : ℤ) (rest : List ℕ) → z <ℤ pos 0 → natural z rest ≡ None
not_natural (pos n) rest below = let low : n < 0 = ltb-true n 0 (true_of _ below.lt) in absurd (omega arith)
not_natural (negsuc n) rest below = refl
