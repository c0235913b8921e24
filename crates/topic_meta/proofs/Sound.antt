-- A list without a fault makes topics that are apart and have counts in range; their ids are UUIDs, as the entries' are.
use Rattle.std.proofs.Common.{◌≡◌, ◌⊎◌, ℕ, ◌+◌, ◌<◌, ◌≤◌, Bool, true, false, cond, ◌&&◌, ◌||◌, List, [], ◌∷◌, ◌++◌, map, length, refl, sym, ap, subst, ◌∙◌, inl, inr, arith, Option, Some, None, bytes_eq, true≢false, if◌then◌else◌, nat_lt, nat_le, sum_by}
use Rattle.std.specs.Set.{is_member}
use Rattle.std.specs.FinMap as finite
use Rattle.std.specs.FinMap.{get, len}
use Rattle.std.specs.FinMap.Entries.{put, by_order}
use Rattle.std.specs.declared.cmp.Ordering.TheVariants.{Less, Equal, Greater}
use Rattle.std.specs.Ordering.{eq_by_cmp}
use Rattle.std.proofs.lemmas.Bool.{ltb-true, leb-true}
use Rattle.std.proofs.lemmas.List.{map-append}
use Rattle.std.proofs.lemmas.List.Sums.{sum_by-cons}
use Rattle.std.proofs.lemmas.Slice.Eq.{bytes_eq-Decides}
use Rattle.flex_wire.specs.Spelling.{FitsUuid}
use Rattle.group_types.specs.Limits.{MOST_TOPICS, MOST_PARTITIONS, MOST_TOPIC_PARTITIONS}
use Rattle.group_types.specs.Text.{Text, text_cmp}
use Rattle.group_types.specs.Topics.{Topic}
use Rattle.group_types.specs.Images.{IdsAreApart, IdsAreUuids, CountsAreInRange, AreImageTopics, partition_count}
use Rattle.group_types.proofs.Orders.{text_cmp_total}
use Rattle.topic_meta.specs.declared.image_fault.ImageFault.TheVariants.{DuplicateName, DuplicateId}
use Rattle.topic_meta.specs.Images.{Entry, topic_of, topics_of, partitions, partitions_in, is_count, fault_if, fault_of}
use Rattle.topic_meta.proofs.Drafts.{topics_of-push, is_member-push, bytes_eq-tie}

-- ---- an entry without a fault

-- what an entry without a fault is
record IsClear (name_taken id_taken : Bool) (count : ℕ) : Type 0 where
  counted : is_count count ≡ true
  name_free : name_taken ≡ false
  id_free : id_taken ≡ false

clear_parts : (a b : Bool) (n : ℕ) → fault_if a b n ≡ None → IsClear a b n
clear_parts a b n none =
    elim (is_count n) as (λ t. is_count n ≡ t → fault_if a b n ≡ None → IsClear a b n) [
      | true ↦ λ counted none. names a b n counted (rw counted at none)
      | false ↦ λ counted none. absurd (let no = rw counted at none in cc)
    ] refl none
  where
    names : (a b : Bool) (n : ℕ) → is_count n ≡ true → (if a then Some DuplicateName else (if b then Some DuplicateId else None)) ≡ None → IsClear a b n
    names true b n counted none = absurd (cc)
    names false true n counted none = absurd (cc)
    names false false n counted none = record { counted = counted; name_free = refl; id_free = refl }

both_parts : (a b : Bool) → (a && b) ≡ true → (a ≡ true) × (b ≡ true)
both_parts true b h = (refl, h)
both_parts false b h = absurd (true≢false (sym h))

in_range : (n : ℕ) → is_count n ≡ true → (1 ≤ n) × (n ≤ MOST_TOPIC_PARTITIONS)
in_range n h =
    let parts = both_parts (nat_lt 0 n) (nat_le n MOST_TOPIC_PARTITIONS) h in
    let above : 0 < n = ltb-true 0 n parts.0 in
    (omega arith, leb-true n MOST_TOPIC_PARTITIONS parts.1)

-- ---- the entries so far

pub record IsSound (entries : List Entry) : Type 0 where
  pub among : (q : Text) (t : Topic) → get (topics_of entries) q ≡ Some t → is_member bytes_eq (map (λ e. e.id) entries) t.id ≡ true
  pub ids_apart : IdsAreApart (topics_of entries)
  pub ids : IdsAreUuids (topics_of entries)
  pub counts : CountsAreInRange (topics_of entries)

nowhere : (q : Text) (t : Topic) → get (topics_of []) q ≡ Some t → ⊥
nowhere q t is = let none = sym (finite.get-empty text_cmp q) ∙ is in cc

pub sound-nil : IsSound []
sound-nil = record {
  among = λ q t is. absurd (nowhere q t is);
  ids_apart = λ p q s t is_s is_t same. absurd (nowhere p s is_s);
  ids = λ q t is. absurd (nowhere q t is);
  counts = λ q t is. absurd (nowhere q t is);
}

either : {A : Type 0} (b : Bool) (x t : A) (o : Option A) → cond b (Some x) o ≡ Some t → ((b ≡ true) × (t ≡ x)) ⊎ (o ≡ Some t)
either true x t o h = inl (refl, cc)
either false x t o h = inr h

-- a topic of the entries with one more is that of the new one, or an earlier one
split : (earlier : List Entry) (e : Entry) → is_member bytes_eq (map (λ d. d.name) earlier) e.name ≡ false
    → (q : Text) (t : Topic) → get (topics_of (earlier ++ e ∷ [])) q ≡ Some t
    → ((q ≡ e.name) × (t ≡ topic_of e)) ⊎ (get (topics_of earlier) q ≡ Some t)
split earlier e free q t is =
    let new : get (topics_of (earlier ++ e ∷ [])) q ≡ cond (eq_by_cmp text_cmp q e.name) (Some (topic_of e)) (get (topics_of earlier) q) =
    ap (λ topics. get topics q) (topics_of-push earlier e free) ∙ finite.get-insert text_cmp_total (topics_of earlier) e.name (topic_of e) q in
    elim (either (eq_by_cmp text_cmp q e.name) (topic_of e) t (get (topics_of earlier) q) (sym new ∙ is)) [
      | inl h ↦ inl (sym ((bytes_eq-Decides e.name q).0 (bytes_eq-tie e.name q ∙ h.0)), h.1)
      | inr h ↦ inr h
    ]

itself : (x : List ℕ) → bytes_eq x x ≡ true
itself x = (bytes_eq-Decides x x).1 refl

member-more : (earlier : List Entry) (e : Entry) (q : List ℕ)
    → is_member bytes_eq (map (λ d. d.id) (earlier ++ e ∷ [])) q ≡ (bytes_eq q e.id || is_member bytes_eq (map (λ d. d.id) earlier) q)
member-more earlier e q =
    ap (λ ids. is_member bytes_eq ids q) (map-append (λ d. d.id) earlier (e ∷ [])) ∙ is_member-push (map (λ d. d.id) earlier) e.id q

or_true : (b : Bool) → (b || true) ≡ true
or_true true = refl
or_true false = refl

module _ (earlier : List Entry) (e : Entry) (sound : IsSound earlier) where
  -- no earlier topic has the id of an entry whose id is new
  apart_from_new : is_member bytes_eq (map (λ d. d.id) earlier) e.id ≡ false
      → (q : Text) (t : Topic) → get (topics_of earlier) q ≡ Some t → t.id ≡ e.id → ⊥
  apart_from_new free q t is same =
      true≢false (sym (sound.among q t is) ∙ ap (is_member bytes_eq (map (λ d. d.id) earlier)) same ∙ free)

  pub sound-push : fault_of earlier e ≡ None → FitsUuid e.id → IsSound (earlier ++ e ∷ [])
  sound-push none uuid =
      let clear = clear_parts (is_member bytes_eq (map (λ d. d.name) earlier) e.name) (is_member bytes_eq (map (λ d. d.id) earlier) e.id) (partitions e.count) none in
      record {
        among = λ q t is. member-more earlier e t.id ∙ elim (split earlier e clear.name_free q t is) [
          | inl h ↦ ap (λ b. b || is_member bytes_eq (map (λ d. d.id) earlier) t.id) (ap (λ u. bytes_eq u.id e.id) h.1 ∙ itself e.id)
          | inr h ↦ ap (λ b. bytes_eq t.id e.id || b) (sound.among q t h) ∙ or_true (bytes_eq t.id e.id)
        ];
        ids_apart = λ p q s t is_s is_t same. elim (split earlier e clear.name_free p s is_s) [
          | inl h ↦ elim (split earlier e clear.name_free q t is_t) [
            | inl k ↦ h.0 ∙ sym k.0
            | inr k ↦ absurd (apart_from_new clear.id_free q t k (sym same ∙ ap (λ u. u.id) h.1))
          ]
          | inr h ↦ elim (split earlier e clear.name_free q t is_t) [
            | inl k ↦ absurd (apart_from_new clear.id_free p s h (same ∙ ap (λ u. u.id) k.1))
            | inr k ↦ sound.ids_apart p q s t h k same
          ]
        ];
        ids = λ q t is. elim (split earlier e clear.name_free q t is) [
          | inl h ↦ subst (λ (u : Topic). FitsUuid u.id) (sym h.1) uuid
          | inr h ↦ sound.ids q t h
        ];
        counts = λ q t is. elim (split earlier e clear.name_free q t is) [
          | inl h ↦ subst (λ (u : Topic). (1 ≤ u.count) × (u.count ≤ MOST_TOPIC_PARTITIONS)) (sym h.1) (in_range (partitions e.count) clear.counted)
          | inr h ↦ sound.counts q t h
        ];
      }

-- ---- no more topics than entries

at_most_one_more : (b : Bool) (n m : ℕ) → n ≤ m → cond b n (n + 1) ≤ m + 1
at_most_one_more true n m h = omega arith
at_most_one_more false n m h = omega arith

pub len-topics_of : (entries : List Entry) → len (topics_of entries) ≤ length entries
len-topics_of [] = let none = finite.len-empty text_cmp Topic in omega arith
len-topics_of (e ∷ entries) =
    let more = finite.len-insert text_cmp_total (topics_of entries) e.name (topic_of e) in
    let bound = at_most_one_more (finite.contains_key (topics_of entries) e.name) (len (topics_of entries)) (length entries) (len-topics_of entries) in
    omega arith

-- ---- no more partitions than in the entries

abbrev counted : List (Text × Topic) → ℕ
counted es = sum_by (λ e. e.1.count) es

counted-cons : (e : Text × Topic) (es : List (Text × Topic)) → counted (e ∷ es) ≡ e.1.count + counted es
counted-cons e es = sum_by-cons (λ e. e.1.count) e es

counted-put : (k : Text) (t : Topic) (es : List (Text × Topic)) → counted (put text_cmp k t es) ≤ t.count + counted es
counted-put k t [] = let one = counted-cons (k, t) [] in omega arith
counted-put k t (e ∷ es) =
    let rest = counted-put k t es in
    let whole = counted-cons e es in
    elim (text_cmp k e.0) as (λ o. counted (by_order o ((k, t) ∷ e ∷ es) ((e.0, t) ∷ es) (e ∷ put text_cmp k t es)) ≤ t.count + counted (e ∷ es)) [
      | Less ↦ let part = counted-cons (k, t) (e ∷ es) in omega arith
      | Equal ↦ let part = counted-cons (e.0, t) es in omega arith
      | Greater ↦ let part = counted-cons e (put text_cmp k t es) in omega arith
    ]

pub partition_count-topics_of : (entries : List Entry) → partition_count (topics_of entries) ≤ partitions_in entries
partition_count-topics_of [] =
    let none : partition_count (topics_of []) ≡ 0 = ap counted (no_entries (finite.entries (topics_of [])) (sym (finite.len-entries (topics_of [])) ∙ finite.len-empty text_cmp Topic)) in
    omega arith
  where
    no_entries : (es : List (Text × Topic)) → length es ≡ 0 → es ≡ []
    no_entries [] none = refl
    no_entries (e ∷ es) none = absurd (omega arith)
partition_count-topics_of (e ∷ entries) =
    let more = ap counted (finite.entries-insert text_cmp_total (topics_of entries) e.name (topic_of e)) in
    let bound = counted-put e.name (topic_of e) (finite.entries (topics_of entries)) in
    let rest = partition_count-topics_of entries in
    let whole = sum_by-cons (λ e. partitions e.count) e entries in
    omega arith

pub topics_of-AreImageTopics : (entries : List Entry) → IsSound entries → length entries ≤ MOST_TOPICS → partitions_in entries ≤ MOST_PARTITIONS → AreImageTopics (topics_of entries)
topics_of-AreImageTopics entries sound short small = record {
  ids_apart = sound.ids_apart;
  ids = sound.ids;
  counts = sound.counts;
  few = let bound = len-topics_of entries in omega arith;
  few_partitions = let bound = partition_count-topics_of entries in omega arith;
}
