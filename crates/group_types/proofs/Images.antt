-- What is kept of an image's topics, by their names, is an image's again; and so are no topics.
use Rattle.std.proofs.Common.{◌≡◌, ℕ, ◌≤◌, Bool, true, false, cond, List, [], ◌∷◌, length, sym, ap, ◌∙◌, arith, Option, Some, None, sum_by}
use Rattle.std.specs.List.{filter}
use Rattle.std.specs.FinMap as finite
use Rattle.std.specs.FinMap.{entries, get}
use Rattle.std.specs.FinMap.Entries.{where_key, is_sorted-where_key, find-where_key}
use Rattle.std.proofs.lemmas.List.{nil_from_length}
use Rattle.std.proofs.lemmas.List.Sums.{sum_by-cons}
use Rattle.group_types.specs.Text.{Text, text_cmp}
use Rattle.group_types.specs.Topics.{Topic, Topics}
use Rattle.group_types.specs.Images.{AreImageTopics, partition_count}
use Rattle.group_types.proofs.Orders.{text_cmp_total, text_cmp-IsAntisymmetric}

-- ---- no topics

nowhere : (q : Text) (t : Topic) → get {R = text_cmp} finite.empty q ≡ Some t → ⊥
nowhere q t is = let none = sym (finite.get-empty {X = Topic} text_cmp q) ∙ is in cc

no_entries : let none : Topics = finite.empty in entries none ≡ []
no_entries = nil_from_length _ (sym (finite.len-entries finite.empty) ∙ finite.len-empty text_cmp Topic)

pub empty-AreImageTopics : AreImageTopics finite.empty
empty-AreImageTopics = record {
  ids_apart = λ p q s t is_s is_t same. absurd (nowhere p s is_s);
  ids = λ q t is. absurd (nowhere q t is);
  counts = λ q t is. absurd (nowhere q t is);
  few = let none = finite.len-empty text_cmp Topic in omega arith;
  few_partitions = let none = ap (sum_by (λ e. e.1.count)) no_entries in omega arith;
}

-- ---- the topics whose names meet a test

length-filter : {A : Type 0} (p : A → Bool) (xs : List A) → length (filter p xs) ≤ length xs
length-filter p [] = omega arith
length-filter p (x ∷ xs) =
    let rest = length-filter p xs in
    elim (p x) as (λ b. length (cond b (x ∷ filter p xs) (filter p xs)) ≤ length (x ∷ xs)) [
      | true ↦ omega arith
      | false ↦ omega arith
    ]

sum_by-filter : {A : Type 0} (f : A → ℕ) (p : A → Bool) (xs : List A) → sum_by f (filter p xs) ≤ sum_by f xs
sum_by-filter f p [] = omega arith
sum_by-filter f p (x ∷ xs) =
    let rest = sum_by-filter f p xs in
    let whole = sum_by-cons f x xs in
    elim (p x) as (λ b. sum_by f (cond b (x ∷ filter p xs) (filter p xs)) ≤ sum_by f (x ∷ xs)) [
      | true ↦ let part = sum_by-cons f x (filter p xs) in omega arith
      | false ↦ omega arith
    ]

from_kept : (b : Bool) (o : Option Topic) (t : Topic) → cond b o None ≡ Some t → o ≡ Some t
from_kept true o t h = h
from_kept false o t h = absurd (cc)

module _ (image : Topics) (test : Text → Bool) where
  abbrev Kept : Topics
  Kept = finite.retain_keys image test

  pub get-retained : (q : Text) → get Kept q ≡ cond (test q) (get image q) None
  get-retained q = finite.get-retain_keys image test q (λ x tie. ap test (sym (text_cmp-IsAntisymmetric q x tie)))

  retained_as : Kept ≡ finite.from_sorted (where_key text_cmp test (entries image))
  retained_as =
      finite.same_map text_cmp_total text_cmp-IsAntisymmetric _ _ (λ q.
      get-retained q
      ∙ ap (λ o. cond (test q) o None) (finite.get-entries image q)
      ∙ sym (find-where_key text_cmp test q (λ x tie. ap test (sym (text_cmp-IsAntisymmetric q x tie))) (entries image))
      ∙ sym (finite.get-from_sorted text_cmp _ q (is_sorted-where_key text_cmp test (entries image) (finite.entries_sorted image))))

  entries-retained : entries Kept ≡ where_key text_cmp test (entries image)
  entries-retained =
      ap entries retained_as
      ∙ finite.entries-from_sorted text_cmp _ (is_sorted-where_key text_cmp test (entries image) (finite.entries_sorted image))

  len-retained : finite.len Kept ≤ finite.len image
  len-retained =
      let shorter = length-filter (λ e. test e.0) (entries image) in
      let whole = finite.len-entries image in
      let part = finite.len-entries Kept ∙ ap length entries-retained in
      omega arith

  partition_count-retained : partition_count Kept ≤ partition_count image
  partition_count-retained =
      let smaller = sum_by-filter (λ e. e.1.count) (λ e. test e.0) (entries image) in
      let part = ap (sum_by (λ e. e.1.count)) entries-retained in
      omega arith

  pub retained-AreImageTopics : AreImageTopics image → AreImageTopics Kept
  retained-AreImageTopics are =
      let before = λ (q : Text) (t : Topic) (is : get Kept q ≡ Some t). from_kept (test q) (get image q) t (sym (get-retained q) ∙ is) in
      record {
        ids_apart = λ p q s t is_s is_t same. are.ids_apart p q s t (before p s is_s) (before q t is_t) same;
        ids = λ q t is. are.ids q t (before q t is);
        counts = λ q t is. are.counts q t (before q t is);
        few = let shorter = len-retained in let bound = are.few in omega arith;
        few_partitions = let smaller = partition_count-retained in let bound = are.few_partitions in omega arith;
      }
