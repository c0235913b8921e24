-- Shares in the order of their ids.
use Rattle.std.proofs.Common.{◌≡◌, ◌≢◌, ℕ, zero, suc, ◌<◌, ◌≤◌, ◌+◌, ◌-◌, None, slice_get, false, List, [], ◌∷◌, map, length, get_or, refl, sym, ap, subst, ◌∙◌, arith, Result, Ok, Err, Some, true≢false, inl, inr}
use Rattle.std.specs.FinMap as finite
use Rattle.std.specs.declared.cmp.Ordering.TheVariants.{Less, Equal, Greater}
use Rattle.std.specs.Cmp.{IsTotalOrder, on_total, tied_itself}
use Rattle.std.specs.List.{AllPairs, Contains, HoldsAt}
use Rattle.std.specs.List.Sorted.{IsBinarySearchResult, IsSearchInRange, IsSortedBy}
use Rattle.std.specs.Ordering.{is_lt, on, ordering_reverse}
use Rattle.std.proofs.lemmas.Bool.{cases_lt}
use Rattle.std.proofs.lemmas.List.{get_or_default, get_or-map}
use Rattle.std.proofs.lemmas.List.Sorted.{ranks_by, searchable_from_sorted, sorted_far}
use Rattle.std.proofs.lemmas.Map.Keys.{Less-from_sorted}
use Rattle.std.proofs.lemmas.Option.{slice_get_within, get_or_from_slice_get}
use Rattle.group_types.proofs.RisingLists.{RisesTo, sorted-RisesTo}
use Rattle.group_types.proofs.Lookups.{not_none}
use Rattle.std.proofs.Math.ListN.{length-map}
use Rattle.group_types.specs.Text.{Text, text_cmp}
use Rattle.group_types.specs.declared.partition.Partition.{Partition}
use Rattle.group_types.specs.Partition.{Partitions}
use Rattle.group_types.specs.Owners.{IsShare}
use Rattle.group_types.proofs.Orders.{text_cmp_total, text_cmp-IsAntisymmetric}
use Rattle.range_assign.specs.declared.spread.Share.{Share}
use Rattle.range_assign.specs.Shares.{AreInIdOrder, AreShares, IdsRise, IsPlace, share_in, shares_in, spread_of}
use Rattle.range_assign.proofs.Spreads.{HaveTwoIds, IsShare-of, owns_nothing}

less_differs : (a b : Text) → text_cmp a b ≡ Less → a ≡ b → ⊥
less_differs a b less same = let tie = ap (λ x. text_cmp a x) (sym same) ∙ tied_itself text_cmp_total a in cc

pub AreShares-of_order : (shares : List (Text × Partitions)) → AreInIdOrder shares → AreShares shares
AreShares-of_order shares order = record {
  ids_apart = λ i j d rise in_j same. less_differs _ _ (order.rise i j d rise in_j) same;
  sets_apart = order.sets_apart;
}

-- ---- after a sort

not_after : (a b : Text) → a ≢ b → is_lt (text_cmp b a) ≡ false → text_cmp a b ≡ Less
not_after a b apart after =
    elim (text_cmp a b) as (λ o. text_cmp a b ≡ o → o ≡ Less) [
      | Less ↦ λ is. refl
      | Equal ↦ λ tie. absurd (apart (text_cmp-IsAntisymmetric a b tie))
      | Greater ↦ λ is.
          let turned : text_cmp b a ≡ Less = text_cmp_total.antisymm b a ∙ ap ordering_reverse is in
          absurd (true≢false (sym (ap is_lt turned) ∙ after))
    ] refl

IdsRise-sorted : (shares : List (Text × Partitions)) → AllPairs HaveTwoIds shares → IsSortedBy (λ s t. is_lt (text_cmp s.0 t.0)) shares → IdsRise shares
IdsRise-sorted shares apart sorted = λ i j d rise in_j.
    not_after _ _ (apart i j d rise in_j) (sorted_far (λ s t. is_lt (text_cmp s.0 t.0)) (ranks_by text_cmp_total (λ (s : Text × Partitions). s.0)) shares sorted i j d (omega arith) in_j)

pub AreInIdOrder-sorted : (shares : List (Text × Partitions)) → AreShares shares → IsSortedBy (λ s t. is_lt (text_cmp s.0 t.0)) shares → AreInIdOrder shares
AreInIdOrder-sorted shares are sorted = record { rise = IdsRise-sorted shares are.ids_apart sorted; sets_apart = are.sets_apart }

-- ---- after a walk

by_id_total : IsTotalOrder (on (λ (s : Share). s.id) text_cmp)
by_id_total = on_total (λ (s : Share). s.id) text_cmp_total

-- shares whose ids rise from each to the next
pub IdsRise-walked : (xs : List Share) (n : ℕ) → length xs ≤ n → RisesTo (on (λ (s : Share). s.id) text_cmp) xs n → IdsRise (shares_in xs)
IdsRise-walked [] n all rises = λ i j d before within. absurd (omega arith)
IdsRise-walked (x ∷ xs) n all rises = λ i j d before within.
    let ys : List Share = x ∷ xs in
    let long = length-map ys share_in in
    let shown : (k : ℕ) → k < length ys → get_or (shares_in ys) k d ≡ share_in (get_or ys k x) =
    λ k below. get_or_default (shares_in ys) k d (share_in x) (omega arith) ∙ get_or-map share_in ys k x (share_in x) below in
    (λ k. text_cmp (shown i (omega arith) k).0 (shown j (omega arith) k).0)
    ∙ Less-from_sorted (on (λ (s : Share). s.id) text_cmp) ys i j x (sorted-RisesTo by_id_total ys n all rises) before (omega arith)

-- ---- after a search

at-map : {A B : Type 0} (f : A → B) (P : B → Type 0) (xs : List A) (i : ℕ) → i < length xs → HoldsAt (λ x. P (f x)) xs i → HoldsAt P (map f xs) i
at-map f P [] i within at = absurd (omega arith)
at-map f P (x ∷ xs) i within at = λ d.
    let long = length-map (x ∷ xs) f in
    subst P (sym (get_or_default (map f (x ∷ xs)) i d (f x) (omega arith) ∙ get_or-map f (x ∷ xs) i x (f x) within)) (at x)

rises : (xs : List Share) → IdsRise (shares_in xs) → IsSortedBy (λ s t. is_lt (text_cmp s.id t.id)) xs
rises xs rise = λ k d low high.
    let long = length-map xs share_in in
    let less : text_cmp (get_or xs k d).id (get_or xs (k + 1) d).id ≡ Less =
    ap (λ s. text_cmp s.0 (get_or xs (k + 1) d).id) (sym (get_or-map share_in xs k d (share_in d) (omega arith)))
    ∙ ap (λ t. text_cmp (get_or (shares_in xs) k (share_in d)).0 t.0) (sym (get_or-map share_in xs (k + 1) d (share_in d) (omega arith)))
    ∙ rise k (k + 1) (share_in d) (omega arith) (omega arith) in
    ap is_lt (text_cmp_total.antisymm (get_or xs (k + 1) d).id (get_or xs k d).id ∙ ap ordering_reverse less)

pub IsPlace-searched : (xs : List Share) (id : Text) (r : Result ℕ ℕ) → IdsRise (shares_in xs) → IsSearchInRange r (length xs)
    → IsBinarySearchResult (λ s. text_cmp s.id id) xs r → IsPlace (shares_in xs) id r
IsPlace-searched xs id (Ok i) rise bound found =
    let long = length-map xs share_in in
    (omega arith, at-map share_in (λ s. s.0 ≡ id) xs i bound (λ d. text_cmp-IsAntisymmetric _ _ (found d)))
IsPlace-searched xs id (Err i) rise bound found =
    let long = length-map xs share_in in
    let parts = found (searchable_from_sorted text_cmp_total (λ (s : Share). s.id) xs id (rises xs rise)) in (
      omega arith,
      λ k d low high. at-map share_in (λ s. text_cmp s.0 id ≡ Less) xs k (omega arith) (λ e. parts.0 k e low high) d,
      λ k d low high. at-map share_in (λ s. text_cmp s.0 id ≡ Greater) xs k (omega arith) (λ e. parts.1 k e low (omega arith)) d,
    )

-- ---- between two neighbours

pub rises-far : (xs : List Share) → IdsRise (shares_in xs) → (i j : ℕ) (d : Share) → i < j → j < length xs → text_cmp (get_or xs i d).id (get_or xs j d).id ≡ Less
rises-far xs rise i j d before within =
    let long = length-map xs share_in in
    ap (λ s. text_cmp s.0 (get_or xs j d).id) (sym (get_or-map share_in xs i d (share_in d) (omega arith)))
    ∙ ap (λ t. text_cmp (get_or (shares_in xs) i (share_in d)).0 t.0) (sym (get_or-map share_in xs j d (share_in d) within))
    ∙ rise i j (share_in d) before (omega arith)

turn_greater : (a b : Text) → text_cmp a b ≡ Greater → text_cmp b a ≡ Less
turn_greater a b greater = text_cmp_total.antisymm b a ∙ ap ordering_reverse greater

turn_less : (a b : Text) → text_cmp a b ≡ Less → text_cmp b a ≡ Greater
turn_less a b less = text_cmp_total.antisymm b a ∙ ap ordering_reverse less

-- what stands behind the end doesn't matter at a place
pub compared_at : (xs : List Share) (k : ℕ) (x d : Share) (id : Text) → k < length xs → text_cmp (get_or xs k d).id id ≡ text_cmp (get_or xs k x).id id
compared_at xs k x d id within = ap (λ (s : Share). text_cmp s.id id) (get_or_default xs k d x within)

pub IsPlace-between : (xs : List Share) (id : Text) (i : ℕ) → IdsRise (shares_in xs) → i ≤ length xs → ((d : Share) → 0 < i → text_cmp (get_or xs (i - 1) d).id id ≡ Less)
    → ((d : Share) → i < length xs → text_cmp (get_or xs i d).id id ≡ Greater) → IsPlace (shares_in xs) id (Err i)
IsPlace-between xs id i rise within before after =
    let long = length-map xs share_in in (
      omega arith,
      λ k d low high. at-map share_in (λ s. text_cmp s.0 id ≡ Less) xs k (omega arith) (λ e.
          let last = before e (omega arith) in
          elim (cases_lt k (i - 1)) [
            | inl far ↦ text_cmp_total.trans (get_or xs k e).id (get_or xs (i - 1) e).id id (rises-far xs rise k (i - 1) e far (omega arith)) last
            | inr near ↦ let same : k ≡ i - 1 = omega arith in ap (λ n. text_cmp (get_or xs n e).id id) same ∙ last
          ]) d,
      λ k d low high. at-map share_in (λ s. text_cmp s.0 id ≡ Greater) xs k (omega arith) (λ e.
          let next = after e (omega arith) in
          elim (cases_lt i k) [
            | inl far ↦ turn_less id (get_or xs k e).id (text_cmp_total.trans id (get_or xs i e).id (get_or xs k e).id (turn_greater (get_or xs i e).id id next) (rises-far xs rise i k e far (omega arith)))
            | inr near ↦ let same : k ≡ i = omega arith in ap (λ n. text_cmp (get_or xs n e).id id) same ∙ next
          ]) d,
    )

-- ---- the share at a place

pub share_at : (xs : List Share) (i : ℕ) (x : Share) → i < length xs → x ≡ get_or xs i x → get_or (shares_in xs) i (share_in x) ≡ share_in x
share_at xs i x within is = get_or-map share_in xs i x (share_in x) within ∙ ap share_in (sym is)

pub IsShare-at : (xs : List Share) (id : Text) (i : ℕ) (x : Share) → AreInIdOrder (shares_in xs) → IsPlace (shares_in xs) id (Ok i) → x ≡ get_or xs i x → IsShare (spread_of (shares_in xs)) id x.set
IsShare-at xs id i x order place is =
    let long = length-map xs share_in in
    let here = share_at xs i x (let within = place.0 in omega arith) is in
    subst (λ id. IsShare (spread_of (shares_in xs)) id x.set) (ap (λ s. s.0) (sym here) ∙ place.1 (share_in x))
    (IsShare-of (shares_in xs) (AreShares-of_order (shares_in xs) order) (share_in x) (i, place.0, here))

pub no_share : (shares : List (Text × Partitions)) (id : Text) (i : ℕ) → IsPlace shares id (Err i) → (s : Text × Partitions) → Contains shares s → s.0 ≡ id → ⊥
no_share shares id i place s (k, within, is) same =
    let itself : text_cmp (get_or shares k s).0 id ≡ Equal = ap (λ t. text_cmp t.0 id) is ∙ ap (λ x. text_cmp x id) same ∙ tied_itself text_cmp_total id in
    elim (cases_lt k i) [
      | inl before ↦ let less = place.1 k s (omega arith) before in cc
      | inr after ↦ let greater = place.2 k s after within in cc
    ]

pub owns_nothing-at : (shares : List (Text × Partitions)) (id : Text) (i : ℕ) → IsPlace shares id (Err i) → (p : Partition) → finite.get (spread_of shares) p ≡ Some id → ⊥
owns_nothing-at shares id i place p is = owns_nothing shares id (no_share shares id i place) p is

-- ---- ids behind all shares

-- where the last share's id is before an id, nobody from there on owns a partition
pub none_behind : (xs : List Share) → IdsRise (shares_in xs) → (last : Share) → slice_get xs (length xs - 1) ≡ Some last → (id : Text) → text_cmp last.id id ≡ Less
    → (m : Text) (p : Partition) → is_lt (text_cmp m id) ≡ false → finite.get (spread_of (shares_in xs)) p ≡ Some m → ⊥
none_behind xs rise last here id less m p after is = owns_nothing shares m none p is
  where
    shares : List (Text × Partitions)
    shares = shares_in xs

    at_end : length xs - 1 < length xs
    at_end = slice_get_within xs (length xs - 1) last here

    the_last : get_or shares (length xs - 1) (share_in last) ≡ share_in last
    the_last = share_at xs (length xs - 1) last at_end (sym (get_or_from_slice_get xs (length xs - 1) last last here))

    before : (s : Text × Partitions) → Contains shares s → text_cmp s.0 id ≡ Less
    before s (k, within, own) =
        let long = length-map xs share_in in
        elim (cases_lt k (length xs - 1)) [
          | inl below ↦
              text_cmp_total.trans s.0 last.id id
              (ap (λ t. text_cmp t.0 last.id) (sym own)
              ∙ ap (λ t. text_cmp (get_or shares k s).0 t.0) (sym (get_or_default shares (length xs - 1) s (share_in last) (omega (arith, at_end, long)) ∙ the_last))
              ∙ rise k (length xs - 1) s below (omega (arith, at_end, long)))
              less
          | inr above ↦
              let same : s ≡ share_in last = sym own ∙ ap (λ n. get_or shares n s) (omega (arith, within, above, long)) ∙ get_or_default shares (length xs - 1) s (share_in last) (omega (arith, at_end, long)) ∙ the_last in
              ap (λ t. text_cmp t.0 id) same ∙ less
        ]

    none : (s : Text × Partitions) → Contains shares s → s.0 ≡ m → ⊥
    none s in_s same = true≢false (sym (ap is_lt (ap (λ t. text_cmp t id) (sym same) ∙ before s in_s)) ∙ after)

-- where there is no last share, nobody owns a partition
pub none_at_all : (xs : List Share) → slice_get xs (length xs - 1) ≡ None → (m : Text) (p : Partition) → finite.get (spread_of (shares_in xs)) p ≡ Some m → ⊥
none_at_all xs none m p is =
    owns_nothing (shares_in xs) m
    (λ s (k, within, own) same.
    let long = length-map xs share_in in
    let some = slice_get_within_some xs (length xs - 1) (omega (arith, within, long)) in
    absurd (not_none_is some.0 (sym none ∙ some.1)))
    p is
  where
    slice_get_within_some : (ys : List Share) (i : ℕ) → i < length ys → (y : Share) × (slice_get ys i ≡ Some y)
    slice_get_within_some [] i within = absurd (omega (arith, within))
    slice_get_within_some (y ∷ ys) zero within = (y, refl)
    slice_get_within_some (y ∷ ys) (suc i) within = slice_get_within_some ys i (omega (arith, within))

    not_none_is : (y : Share) → None ≡ Some y → ⊥
    not_none_is y same = not_none y same
