-- How a listing grows at its end, how long it is, and that its entries have no tagged fields.
use Rattle.std.proofs.Common.{◌≡◌, ℕ, ◌+◌, ◌≤◌, ℤ, Bool, true, false, cond, List, [], ◌∷◌, ◌++◌, length, refl, sym, ap, ◌∙◌, arith, if◌then◌else◌}
use Rattle.std.specs.List.{AllByRecursion}
use Rattle.std.specs.Str.{bytes_eq}
use Rattle.std.proofs.lemmas.Slice.Eq.{bytes_eq-Decides}
use Rattle.kip_msgs.specs.Values.{TopicPartitionsValue}
use Rattle.kip_msgs.specs.Listing.{alone, before, listed_by}
use Rattle.kip_msgs.specs.Growth.{behind, is_of, with_index}

-- ---- at the end

-- into one entry, or beside it
first : (s : List ℕ) (i : ℤ) (t : List ℕ) (j : ℤ) (b : Bool) → bytes_eq s t ≡ b
    → (if b then record (alone t j) { partitions = i ∷ j ∷ [] } ∷ [] else alone s i ∷ alone t j ∷ []) ≡ behind (alone s i ∷ []) t j
first s i t j true so =
    ap (λ x. (record { topic_id = x; partitions = i ∷ j ∷ []; tags = [] }) ∷ []) (sym ((bytes_eq-Decides s t).0 so))
    ∙ sym (ap (λ b. if b then with_index (alone s i) j ∷ [] else alone s i ∷ alone t j ∷ []) so)
first s i t j false other = sym (ap (λ b. if b then with_index (alone s i) j ∷ [] else alone s i ∷ alone t j ∷ []) other)

second : (s : List ℕ) (i : ℤ) (t : List ℕ) (j : ℤ) (e : TopicPartitionsValue) (a b : Bool) → is_of t e ≡ a → bytes_eq s e.topic_id ≡ b
    → before s i (if a then with_index e j ∷ [] else e ∷ alone t j ∷ [])
    ≡ behind (if b then record e { partitions = i ∷ e.partitions } ∷ [] else alone s i ∷ e ∷ []) t j
second s i t j e true true f g = rw (f, g) refl
second s i t j e true false f g = rw (f, g) refl
second s i t j e false true f g = rw (f, g) refl
second s i t j e false false f g = rw (f, g) refl

third : (s : List ℕ) (i : ℤ) (t : List ℕ) (j : ℤ) (e u : TopicPartitionsValue) (us : List TopicPartitionsValue) (b : Bool) → bytes_eq s e.topic_id ≡ b
    → before s i (e ∷ behind (u ∷ us) t j)
    ≡ behind (if b then record e { partitions = i ∷ e.partitions } ∷ u ∷ us else alone s i ∷ e ∷ u ∷ us) t j
third s i t j e u us true g = rw g refl
third s i t j e u us false g = rw g refl

both_ends : (s : List ℕ) (i : ℤ) (es : List TopicPartitionsValue) (t : List ℕ) (j : ℤ) → before s i (behind es t j) ≡ behind (before s i es) t j
both_ends s i [] t j = first s i t j (bytes_eq s t) refl
both_ends s i (e ∷ []) t j = second s i t j e (is_of t e) (bytes_eq s e.topic_id) refl refl
both_ends s i (e ∷ u ∷ us) t j = third s i t j e u us (bytes_eq s e.topic_id) refl

pub listed_by-push : {P : Type 0} (topic : P → List ℕ) (index : P → ℤ) (ps : List P) (p : P)
    → listed_by topic index (ps ++ p ∷ []) ≡ behind (listed_by topic index ps) (topic p) (index p)
listed_by-push topic index [] p = refl
listed_by-push topic index (q ∷ qs) p =
    ap (before (topic q) (index q)) (listed_by-push topic index qs p) ∙ both_ends (topic q) (index q) (listed_by topic index qs) (topic p) (index p)

-- ---- lengths

-- how many indexes stand in a listing
abbrev pub indexes_in : List TopicPartitionsValue → ℕ
indexes_in [] = 0
indexes_in (t ∷ ts) = length t.partitions + indexes_in ts

indexes_before : (s : List ℕ) (i : ℤ) (t : TopicPartitionsValue) (ts : List TopicPartitionsValue) (b : Bool)
    → indexes_in (if b then record t { partitions = i ∷ t.partitions } ∷ ts else alone s i ∷ t ∷ ts) ≡ indexes_in (t ∷ ts) + 1
indexes_before s i t ts true = omega arith
indexes_before s i t ts false = omega arith

indexes_in-before : (s : List ℕ) (i : ℤ) (ts : List TopicPartitionsValue) → indexes_in (before s i ts) ≡ indexes_in ts + 1
indexes_in-before s i [] = refl
indexes_in-before s i (t ∷ ts) = indexes_before s i t ts (bytes_eq s t.topic_id)

-- each partition stands in its listing once
pub indexes_in-listed_by : {P : Type 0} (topic : P → List ℕ) (index : P → ℤ) (ps : List P) → indexes_in (listed_by topic index ps) ≡ length ps
indexes_in-listed_by topic index [] = refl
indexes_in-listed_by topic index (p ∷ ps) =
    omega (arith, indexes_in-before (topic p) (index p) (listed_by topic index ps), indexes_in-listed_by topic index ps)

entries_before : (s : List ℕ) (i : ℤ) (t : TopicPartitionsValue) (ts : List TopicPartitionsValue) (b : Bool)
    → length (if b then record t { partitions = i ∷ t.partitions } ∷ ts else alone s i ∷ t ∷ ts) ≤ length (t ∷ ts) + 1
entries_before s i t ts true = omega arith
entries_before s i t ts false = omega arith

length-before : (s : List ℕ) (i : ℤ) (ts : List TopicPartitionsValue) → length (before s i ts) ≤ length ts + 1
length-before s i [] = omega arith
length-before s i (t ∷ ts) = entries_before s i t ts (bytes_eq s t.topic_id)

pub length-listed_by : {P : Type 0} (topic : P → List ℕ) (index : P → ℤ) (ps : List P) → length (listed_by topic index ps) ≤ length ps
length-listed_by topic index [] = omega arith
length-listed_by topic index (p ∷ ps) =
    omega (arith, length-before (topic p) (index p) (listed_by topic index ps), length-listed_by topic index ps)

-- ---- tagged fields

-- no entry has tagged fields
abbrev pub HaveNoTags : List TopicPartitionsValue → Type 0
HaveNoTags ts = AllByRecursion (λ t. t.tags ≡ []) ts

no_tags_before : (s : List ℕ) (i : ℤ) (t : TopicPartitionsValue) (ts : List TopicPartitionsValue) (b : Bool) → HaveNoTags (t ∷ ts)
    → HaveNoTags (cond b (record t { partitions = i ∷ t.partitions } ∷ ts) (alone s i ∷ t ∷ ts))
no_tags_before s i t ts true none = none
no_tags_before s i t ts false none = (refl, none)

HaveNoTags-before : (s : List ℕ) (i : ℤ) (ts : List TopicPartitionsValue) → HaveNoTags ts → HaveNoTags (before s i ts)
HaveNoTags-before s i [] none = (refl, tt)
HaveNoTags-before s i (t ∷ ts) none = no_tags_before s i t ts (bytes_eq s t.topic_id) none

pub HaveNoTags-listed_by : {P : Type 0} (topic : P → List ℕ) (index : P → ℤ) (ps : List P) → HaveNoTags (listed_by topic index ps)
HaveNoTags-listed_by topic index [] = tt
HaveNoTags-listed_by topic index (p ∷ ps) = HaveNoTags-before (topic p) (index p) (listed_by topic index ps) (HaveNoTags-listed_by topic index ps)
