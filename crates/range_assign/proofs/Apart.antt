-- Lists no two of whose elements are related: their order is of no account.
use Rattle.std.proofs.Common.{◌≡◌, ◌≢◌, ◌⊎◌, ℕ, ◌<◌, ◌≤◌, List, [], ◌∷◌, length, get_or, refl, sym, ap, subst, ◌∙◌, arith, inl, inr}
use Rattle.std.specs.List.{AllPairs, swap}
use Rattle.std.specs.List.Sorted.{IsPermutation}
use Rattle.std.proofs.lemmas.Bool.{cases_order}
use Rattle.std.proofs.lemmas.List.Edits.{Swapped, length-swap, swapped_from_swap}
use Rattle.std.proofs.lemmas.List.Sorted.{IsPermutation-keeps}
use Rattle.std.proofs.lemmas.Option.{slice_get_within, get_or_from_slice_get, slice_get-get_or}
use Rattle.std.proofs.lemmas.List.{get_or_default, get_or-map}
use Rattle.std.proofs.Math.ListN.{length-map}
use Rattle.group_types.specs.Assignors.{Subscriber, IdsAreApart}
use Rattle.range_assign.specs.declared.subs.Subscriber.{Subscriber as Given}
use Rattle.range_assign.specs.Members.{subscriber_of, subscribers_in}

module _ {X : Type 0} (R : X → X → Type 0) (turned : (x y : X) → R x y → R y x) where
  -- at two places in either order
  pub at_two : (xs : List X) → AllPairs R xs → (i j : ℕ) (d : X) → i < length xs → j < length xs → (i ≡ j → ⊥) → R (get_or xs i d) (get_or xs j d)
  at_two xs all i j d in_i in_j apart =
      elim (cases_order i j) [
        | inl same ↦ absurd (apart same)
        | inr other ↦ elim other [
          | inl below ↦ all i j d below in_j
          | inr above ↦ turned _ _ (all j i d above in_i)
        ]
      ]

  -- where an element of a list with two elements exchanged stood before
  moved : (xs ys : List X) (i j : ℕ) (d : X) → Swapped (λ k. get_or xs k d) (λ k. get_or ys k d) i j → (k : ℕ)
      → (m : ℕ) × (get_or ys k d ≡ get_or xs m d) × (((k ≡ i) × (m ≡ j)) ⊎ (((k ≡ j) × (m ≡ i)) ⊎ ((k ≡ i → ⊥) × (k ≡ j → ⊥) × (m ≡ k))))
  moved xs ys i j d swapped k =
      elim (cases_order k i) [
        | inl is_i ↦ (j, ap (λ n. get_or ys n d) is_i ∙ swapped.0, inl (is_i, refl))
        | inr not_i ↦ elim (cases_order k j) [
          | inl is_j ↦ (i, ap (λ n. get_or ys n d) is_j ∙ swapped.1, inr (inl (is_j, refl)))
          | inr not_j ↦
              let off_i : k ≡ i → ⊥ = λ same. elim not_i [ inl below ↦ omega arith | inr above ↦ omega arith ] in
              let off_j : k ≡ j → ⊥ = λ same. elim not_j [ inl below ↦ omega arith | inr above ↦ omega arith ] in
              (k, swapped.2 k off_i off_j, inr (inr (off_i, off_j, refl)))
        ]
      ]

  AllPairs-swap : (xs : List X) (i j : ℕ) → i < length xs → j < length xs → AllPairs R xs → AllPairs R (swap xs i j)
  AllPairs-swap xs i j in_i in_j all = λ a b d rise in_b.
      let swapped = swapped_from_swap xs (swap xs i j) i j d in_i in_j refl in
      let long = length-swap xs i j in
      let from_a = moved xs (swap xs i j) i j d swapped a in
      let from_b = moved xs (swap xs i j) i j d swapped b in
      let case_a = from_a.2 in
      let case_b = from_b.2 in
      let here : R (get_or xs from_a.0 d) (get_or xs from_b.0 d) = at_two xs all from_a.0 from_b.0 d (grind arith) (grind arith) (grind arith) in
      subst (λ x. R x (get_or (swap xs i j) b d)) (sym from_a.1) (subst (λ y. R (get_or xs from_a.0 d) y) (sym from_b.1) here)

  pub AllPairs-permutation : (xs ys : List X) → IsPermutation xs ys → AllPairs R xs → AllPairs R ys
  AllPairs-permutation xs ys moves all = IsPermutation-keeps xs (AllPairs R) all AllPairs-swap ys moves

-- ---- members

abbrev pub HaveTwoIds : Subscriber → Subscriber → Type 0
HaveTwoIds m n = m.id ≢ n.id

HaveTwoIds-turned : (m n : Subscriber) → HaveTwoIds m n → HaveTwoIds n m
HaveTwoIds-turned m n apart = λ same. apart (sym same)

pairs_of_apart : (subs : List Subscriber) → IdsAreApart subs → AllPairs HaveTwoIds subs
pairs_of_apart subs apart = λ i j d rise in_j same.
    let equal = apart i j (get_or subs i d) (get_or subs j d) (slice_get-get_or subs i d (omega arith)) (slice_get-get_or subs j d in_j) same in
    omega arith

apart_of_pairs : (subs : List Subscriber) → AllPairs HaveTwoIds subs → IdsAreApart subs
apart_of_pairs subs all = λ i j m n is_m is_n same.
    let in_i = slice_get_within subs i m is_m in
    let in_j = slice_get_within subs j n is_n in
    let ids : (get_or subs i m).id ≡ (get_or subs j m).id =
    ap (λ s. s.id) (get_or_from_slice_get subs i m m is_m) ∙ same ∙ sym (ap (λ s. s.id) (get_or_from_slice_get subs j n m is_n)) in
    elim (cases_order i j) [
      | inl equal ↦ equal
      | inr other ↦ elim other [
        | inl below ↦ absurd (all i j m below in_j ids)
        | inr above ↦ absurd (all j i m above in_i (sym ids))
      ]
    ]

pub IdsAreApart-permutation : (subs ordered : List Subscriber) → IsPermutation subs ordered → IdsAreApart subs → IdsAreApart ordered
IdsAreApart-permutation subs ordered moves apart =
    apart_of_pairs ordered (AllPairs-permutation HaveTwoIds HaveTwoIds-turned subs ordered moves (pairs_of_apart subs apart))

-- members whose ids differ wherever one comes before another
pub IdsAreApart-of : (ms : List Given) (n : ℕ) → length ms ≤ n → ((i j : ℕ) (d : Given) → i < j → j < n → (get_or ms i d).id.now ≡ (get_or ms j d).id.now → ⊥) → IdsAreApart (subscribers_in ms)
IdsAreApart-of [] n all apart = λ i j m other is_m is_other same. cc
IdsAreApart-of (x ∷ xs) n all apart =
    let ms = x ∷ xs in
    apart_of_pairs (subscribers_in ms) (λ i j d rise in_j same.
    let long = length-map ms subscriber_of in
    let shown : (k : ℕ) → k < length ms → get_or (subscribers_in ms) k d ≡ subscriber_of (get_or ms k x) =
    λ k within. get_or_default (subscribers_in ms) k d (subscriber_of x) (omega arith) ∙ get_or-map subscriber_of ms k x (subscriber_of x) within in
    apart i j x rise (omega arith) (ap (λ s. s.id) (sym (shown i (omega arith))) ∙ same ∙ ap (λ s. s.id) (shown j (omega arith))))

-- members of which two have one id
pub one_id_is_not_apart : (ms : List Given) (i j : ℕ) (d : Given) → i < j → j < length ms → (get_or ms i d).id.now ≡ (get_or ms j d).id.now → IdsAreApart (subscribers_in ms) → ⊥
one_id_is_not_apart ms i j d rise in_j same apart =
    let long = length-map ms subscriber_of in
    let shown : (k : ℕ) → k < length ms → get_or (subscribers_in ms) k (subscriber_of d) ≡ subscriber_of (get_or ms k d) =
    λ k within. get_or-map subscriber_of ms k d (subscriber_of d) within in
    pairs_of_apart (subscribers_in ms) apart i j (subscriber_of d) rise (omega arith)
    (ap (λ s. s.id) (shown i (omega arith)) ∙ same ∙ sym (ap (λ s. s.id) (shown j in_j)))
