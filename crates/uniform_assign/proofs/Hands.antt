-- Hands without a partition make no share, and their spread is that of all.
use Rattle.std.proofs.Common.{◌≡◌, ◌++◌, ◌==◌, ℕ, ◌<◌, true, false, List, [], ◌∷◌, get_or, length, map, not, refl, sym, ap, subst, ◌∙◌, arith}
use Rattle.std.specs.List.{AllPairs, filter}
use Rattle.std.specs.FinMap as finite
use Rattle.std.proofs.lemmas.List.{get_or-map, get_or_default, nil_from_length}
use Rattle.std.proofs.lemmas.List.Kept.{AllPairs-filter}
use Rattle.std.proofs.Math.ListN.{length-map}
use Rattle.group_types.specs.declared.partition.Partition.{Partition}
use Rattle.group_types.specs.Partition.{Partitions, partition_cmp}
use Rattle.group_types.specs.Sets.{in_order, of_list}
use Rattle.group_types.specs.Text.{Text}
use Rattle.group_types.proofs.SetLemmas.{entries-nothing}
use Rattle.range_assign.specs.Shares.{AreShares, owned_in, spread_of}
use Rattle.range_assign.proofs.Spreads.{HaveTwoIds, ShareNothing}
use Rattle.uniform_assign.specs.declared.shares.Hand.{Hand}
use Rattle.uniform_assign.specs.Hands.{hand_in, hands_in, has_parts}

-- a hand that has none comes first
pub filter-none : (h : Hand) (hs : List Hand) → has_parts h ≡ false → filter has_parts (h ∷ hs) ≡ filter has_parts hs
filter-none h hs none = rw none refl

pub filter-some : (h : Hand) (hs : List Hand) → has_parts h ≡ true → filter has_parts (h ∷ hs) ≡ h ∷ filter has_parts hs
filter-some h hs some = rw some refl

zero_long : (n : ℕ) → not (n == 0) ≡ false → n ≡ 0
zero_long n none = grind (arith)

-- ---- the spread

-- the partitions of one hand before those of the others
abbrev before : Hand → List (Partition × Text) → List (Partition × Text)
before h rest = map (λ p. (p, h.id.now)) (in_order (of_list {R = partition_cmp} h.parts.items)) ++ rest

nothing_owned : (h : Hand) (rest : List (Partition × Text)) → has_parts h ≡ false → before h rest ≡ rest
nothing_owned h rest none =
    let bare : h.parts.items ≡ [] = nil_from_length h.parts.items (sym h.parts.ok.0 ∙ zero_long h.parts.len none) in
    ap (λ ps. map (λ p. (p, h.id.now)) (in_order (of_list {R = partition_cmp} ps)) ++ rest) bare
    ∙ ap (λ es. map (λ p. (p, h.id.now)) (map (λ e. e.0) es) ++ rest) (entries-nothing partition_cmp)

owned_in-full : (hands : List Hand) → owned_in (hands_in (filter has_parts hands)) ≡ owned_in (hands_in hands)
owned_in-full [] = refl
owned_in-full (h ∷ hs) = elim (has_parts h) as (λ b. has_parts h ≡ b → owned_in (hands_in (filter has_parts (h ∷ hs))) ≡ owned_in (hands_in (h ∷ hs))) [
  | true ↦ λ some. ap (λ xs. owned_in (hands_in xs)) (filter-some h hs some) ∙ ap (before h) (owned_in-full hs)
  | false ↦ λ none. ap (λ xs. owned_in (hands_in xs)) (filter-none h hs none) ∙ owned_in-full hs ∙ sym (nothing_owned h (owned_in (hands_in hs)) none)
] refl

pub spread_of-full : (hands : List Hand) → spread_of (hands_in (filter has_parts hands)) ≡ spread_of (hands_in hands)
spread_of-full hands = ap finite.from_entries (owned_in-full hands)

-- ---- what is apart stays apart

module _ {A B : Type 0} (f : A → B) (R : B → B → Type 0) where
  AllPairs-of_mapped : (xs : List A) → AllPairs R (map f xs) → AllPairs (λ x y. R (f x) (f y)) xs
  AllPairs-of_mapped xs all = λ i j d rise in_j.
      let long = length-map xs f in
      subst (R (f (get_or xs i d))) (get_or-map f xs j d (f d) in_j)
      (subst (λ x. R x (get_or (map f xs) j (f d))) (get_or-map f xs i d (f d) (omega arith)) (all i j (f d) rise (omega arith)))

  AllPairs-mapped : (xs : List A) → AllPairs (λ x y. R (f x) (f y)) xs → AllPairs R (map f xs)
  AllPairs-mapped [] all = λ i j d rise in_j. absurd (omega arith)
  AllPairs-mapped (x ∷ xs) all = λ i j d rise in_j.
      let long = length-map (x ∷ xs) f in
      let at : (k : ℕ) → k < length (x ∷ xs) → f (get_or (x ∷ xs) k x) ≡ get_or (map f (x ∷ xs)) k d =
      λ k low. sym (get_or_default (map f (x ∷ xs)) k d (f x) (omega arith) ∙ get_or-map f (x ∷ xs) k x (f x) low) in
      subst (R (get_or (map f (x ∷ xs)) i d)) (at j (omega arith)) (subst (λ y. R y (f (get_or (x ∷ xs) j x))) (at i (omega arith)) (all i j x rise (omega arith)))

AllPairs-full : (R : Text × Partitions → Text × Partitions → Type 0) (hands : List Hand) → AllPairs R (hands_in hands) → AllPairs R (hands_in (filter has_parts hands))
AllPairs-full R hands all = AllPairs-mapped hand_in R (filter has_parts hands) (AllPairs-filter (λ g h. R (hand_in g) (hand_in h)) has_parts hands (AllPairs-of_mapped hand_in R hands all))

pub AreShares-full : (hands : List Hand) → AreShares (hands_in hands) → AreShares (hands_in (filter has_parts hands))
AreShares-full hands are = record { ids_apart = AllPairs-full HaveTwoIds hands are.ids_apart; sets_apart = AllPairs-full ShareNothing hands are.sets_apart }
