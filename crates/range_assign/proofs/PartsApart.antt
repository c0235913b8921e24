-- Shares whose partitions are as many in a set as in a list: no two have one.
use Rattle.std.proofs.Common.{◌≡◌, ◌==◌, ◌+◌, ◌≤◌, ℕ, zero, suc, ◌<◌, Bool, true, false, cond, not, ◌&&◌, ◌||◌, List, [], ◌∷◌, ◌++◌, length, get_or, refl, sym, ap, subst, ◌∙◌, arith, true≢false, IsTrue, ◌↔◌}
use Rattle.std.specs.Cmp.{Equal-is, eq_by_cmp_equiv}
use Rattle.std.specs.List.{AllPairs, Contains, list_any}
use Rattle.std.specs.Ordering.{eq_by_cmp}
use Rattle.std.proofs.lemmas.Bool.Decides.{Decides-eqb, same_from_decides}
use Rattle.std.proofs.lemmas.List.{get_or_default}
use Rattle.group_types.specs.declared.partition.Partition.{Partition}
use Rattle.group_types.specs.Text.{Text}
use Rattle.group_types.specs.Sets.{has, in_order, of_list, size}
use Rattle.group_types.specs.Partition.{partition_cmp, Partitions}
use Rattle.group_types.proofs.ListLemmas.{any_append}
use Rattle.group_types.proofs.Orders.{partition_cmp_total, partition_cmp-IsAntisymmetric}
use Rattle.group_types.proofs.SetLemmas.{apart_of_common, common-nothing, has-in_order, has-of_list, same_set, size-nothing, size-with_one}
use Rattle.range_assign.specs.Shares.{SetsAreApart, partitions_in}
use Rattle.range_assign.proofs.Spreads.{Contains-cases, Contains-cons, Contains-head, ShareNothing}

abbrev among : Partition → List Partition → Bool
among q ps = list_any (eq_by_cmp partition_cmp q) ps

-- whether no partition of a list is there twice
abbrev are_distinct : List Partition → Bool
are_distinct [] = true
are_distinct (p ∷ ps) = not (among p ps) && are_distinct ps

-- ---- a set is as large as a list

at_most : (b : Bool) (n m : ℕ) → n ≤ m → cond b n (n + 1) ≤ suc m
at_most true n m low = omega arith
at_most false n m low = omega arith

size-with : (p : Partition) (ps : List Partition) → size (of_list {R = partition_cmp} (p ∷ ps)) ≡ cond (among p ps) (size (of_list {R = partition_cmp} ps)) (size (of_list {R = partition_cmp} ps) + 1)
size-with p ps =
    size-with_one partition_cmp_total (of_list ps) p
    ∙ ap (λ b. cond b (size (of_list {R = partition_cmp} ps)) (size (of_list {R = partition_cmp} ps) + 1)) (has-of_list partition_cmp_total ps p)

size-bound : (ps : List Partition) → size (of_list {R = partition_cmp} ps) ≤ length ps
size-bound [] = let none = size-nothing partition_cmp in omega arith
size-bound (p ∷ ps) =
    subst (λ n. n ≤ suc (length ps)) (sym (size-with p ps)) (at_most (among p ps) (size (of_list {R = partition_cmp} ps)) (length ps) (size-bound ps))

eq-less : (n m : ℕ) → n ≤ m → (n == suc m) ≡ false
eq-less n m low =
    elim (n == suc m) as (λ b. (n == suc m) ≡ b → b ≡ false) [
      | true ↦ λ so. let is = (Decides-eqb n (suc m)).0 so in absurd (omega arith)
      | false ↦ λ so. refl
    ] refl

eq-suc : (n m : ℕ) → ((n + 1) == suc m) ≡ (n == m)
eq-suc n m =
    same_from_decides _ _ (Decides-eqb (n + 1) (suc m))
    (λ so. let is = (Decides-eqb n m).0 so in omega arith, λ is. (Decides-eqb n m).1 (omega arith))

size-distinct : (ps : List Partition) → (size (of_list {R = partition_cmp} ps) == length ps) ≡ are_distinct ps
size-distinct [] = ap (λ n. n == 0) (size-nothing partition_cmp)
size-distinct (p ∷ ps) = ap (λ n. n == suc (length ps)) (size-with p ps) ∙ by (among p ps) (size-distinct ps)
  where
    by : (b : Bool) → (size (of_list {R = partition_cmp} ps) == length ps) ≡ are_distinct ps
        → (cond b (size (of_list {R = partition_cmp} ps)) (size (of_list {R = partition_cmp} ps) + 1) == suc (length ps)) ≡ (not b && are_distinct ps)
    by true rest = eq-less (size (of_list {R = partition_cmp} ps)) (length ps) (size-bound ps)
    by false rest = eq-suc (size (of_list {R = partition_cmp} ps)) (length ps) ∙ rest

-- a set's own list has no partition twice
distinct-in_order : (s : Partitions) → are_distinct (in_order s) ≡ true
distinct-in_order s =
    sym (size-distinct (in_order s)) ∙ (Decides-eqb (size (of_list {R = partition_cmp} (in_order s))) (length (in_order s))).1 (ap size same)
  where
    same : of_list (in_order s) ≡ s
    same = same_set partition_cmp_total partition_cmp-IsAntisymmetric _ _ (λ q. has-of_list partition_cmp_total (in_order s) q ∙ sym (has-in_order s q))

-- ---- one list behind another

same_partition : (p q : Partition) → eq_by_cmp partition_cmp q p ≡ true → q ≡ p
same_partition p q so = partition_cmp-IsAntisymmetric q p ((Equal-is (partition_cmp q p)).0 so)

both_parts : (a b : Bool) → (not a && b) ≡ true → (a ≡ false) × (b ≡ true)
both_parts true b so = absurd (true≢false (sym so))
both_parts false b so = (refl, so)

neither : (a b : Bool) → (a || b) ≡ false → (a ≡ false) × (b ≡ false)
neither true b so = absurd (true≢false so)
neither false b so = (refl, so)

abbrev ShareNone : List Partition → List Partition → Type 0
ShareNone ps qs = (q : Partition) → among q ps ≡ true → among q qs ≡ false

pub record AreTwo (ps qs : List Partition) : Type 0 where
  pub second : are_distinct qs ≡ true
  pub apart : ShareNone ps qs

distinct-two : (ps qs : List Partition) → are_distinct (ps ++ qs) ≡ true → AreTwo ps qs
distinct-two [] qs so = record { second = so; apart = λ q there. absurd (true≢false (sym there)) }
distinct-two (p ∷ ps) qs so =
    let parts = both_parts (among p (ps ++ qs)) (are_distinct (ps ++ qs)) so in
    let rest = distinct-two ps qs parts.1 in
    let away = neither (among p ps) (among p qs) (sym (any_append (eq_by_cmp partition_cmp p) ps qs) ∙ parts.0) in
    record {
      second = rest.second;
      apart = λ q there.
          elim (eq_by_cmp partition_cmp q p) as (λ b. eq_by_cmp partition_cmp q p ≡ b → (b || among q ps) ≡ true → among q qs ≡ false) [
            | true ↦ λ tie there. ap (λ x. among x qs) (same_partition p q tie) ∙ away.1
            | false ↦ λ tie there. rest.apart q there
          ] refl there;
    }

distinct-append : (ps qs : List Partition) → are_distinct ps ≡ true → are_distinct qs ≡ true → ShareNone ps qs → are_distinct (ps ++ qs) ≡ true
distinct-append [] qs first second apart = second
distinct-append (p ∷ ps) qs first second apart =
    let parts = both_parts (among p ps) (are_distinct ps) first in
    let away : among p (ps ++ qs) ≡ false =
    any_append (eq_by_cmp partition_cmp p) ps qs
    ∙ ap (λ b. b || among p qs) parts.0
    ∙ apart p (ap (λ b. b || among p ps) ((eq_by_cmp_equiv partition_cmp_total).refl p)) in
    ap (λ b. not b && are_distinct (ps ++ qs)) away
    ∙ distinct-append ps qs parts.1 second (λ q there. apart q (or_second (eq_by_cmp partition_cmp q p) (among q ps) there))
  where
    or_second : (a b : Bool) → b ≡ true → (a || b) ≡ true
    or_second true b so = refl
    or_second false b so = so

-- ---- the partitions of shares

module _ (s : Text × Partitions) (ss : List (Text × Partitions)) where
  among-cons : (q : Partition) → among q (partitions_in (s ∷ ss)) ≡ (has s.1 q || among q (partitions_in ss))
  among-cons q = any_append (eq_by_cmp partition_cmp q) (in_order s.1) (partitions_in ss) ∙ ap (λ b. b || among q (partitions_in ss)) (sym (has-in_order s.1 q))

share-among : (shares : List (Text × Partitions)) (t : Text × Partitions) → Contains shares t → (q : Partition) → has t.1 q ≡ true → among q (partitions_in shares) ≡ true
share-among [] t (k, within, is) q there = absurd (omega arith)
share-among (s ∷ ss) t of q there =
    among-cons s ss q
    ∙ Contains-cases s ss t
    (λ same. ap (λ b. b || among q (partitions_in ss)) (ap (λ x. has x.1 q) same ∙ there))
    (λ later. ap (λ b. has s.1 q || b) (share-among ss t later q there) ∙ or_true (has s.1 q))
    of
  where
    or_true : (b : Bool) → (b || true) ≡ true
    or_true true = refl
    or_true false = refl

among-share : (shares : List (Text × Partitions)) (q : Partition) → among q (partitions_in shares) ≡ true → (t : Text × Partitions) × Contains shares t × (has t.1 q ≡ true)
among-share [] q there = absurd (true≢false (sym there))
among-share (s ∷ ss) q there =
    elim (has s.1 q) as (λ b. has s.1 q ≡ b → (b || among q (partitions_in ss)) ≡ true → (t : Text × Partitions) × Contains (s ∷ ss) t × (has t.1 q ≡ true)) [
      | true ↦ λ here _. (s, Contains-head s ss, here)
      | false ↦ λ away later.
          let found = among-share ss q later in
          (found.0, Contains-cons s ss found.0 found.1, found.2)
    ] refl (sym (among-cons s ss q) ∙ there)

-- ---- pairs of a list, the first one's and the others'

module _ {X : Type 0} (R : X → X → Type 0) (x : X) (xs : List X) where
  AllPairs-cons : ((t : X) → Contains xs t → R x t) → AllPairs R xs → AllPairs R (x ∷ xs)
  AllPairs-cons first rest = λ i j d before within. at i j d before within
    where
      at : (i j : ℕ) (d : X) → i < j → j < length (x ∷ xs) → R (get_or (x ∷ xs) i d) (get_or (x ∷ xs) j d)
      at i zero d before within = absurd (omega arith)
      at zero (suc j) d before within =
          let below : j < length xs = omega arith in
          first (get_or xs j d) (j, below, get_or_default xs j (get_or xs j d) d below)
      at (suc i) (suc j) d before within = rest i j d (omega arith) (omega arith)

  AllPairs-first : AllPairs R (x ∷ xs) → (t : X) → Contains xs t → R x t
  AllPairs-first all t (k, within, is) = subst (λ y. R x y) is (all 0 (suc k) t (omega arith) (omega arith))

  AllPairs-rest : AllPairs R (x ∷ xs) → AllPairs R xs
  AllPairs-rest all = λ i j d before within. all (suc i) (suc j) d (omega arith) (omega arith)

apart-of_distinct : (shares : List (Text × Partitions)) → are_distinct (partitions_in shares) ≡ true → SetsAreApart shares
apart-of_distinct [] so = λ i j d before within. absurd (omega arith)
apart-of_distinct (s ∷ ss) so =
    let two = distinct-two (in_order s.1) (partitions_in ss) so in
    AllPairs-cons ShareNothing s ss
    (λ t of. common-nothing partition_cmp_total partition_cmp-IsAntisymmetric s.1 t.1 (λ q there.
    elim (has t.1 q) as (λ b. has t.1 q ≡ b → b ≡ false) [
      | true ↦ λ too. absurd (true≢false (sym (share-among ss t of q too) ∙ two.apart q (sym (has-in_order s.1 q) ∙ there)))
      | false ↦ λ away. refl
    ] refl))
    (apart-of_distinct ss two.second)

distinct-of_apart : (shares : List (Text × Partitions)) → SetsAreApart shares → are_distinct (partitions_in shares) ≡ true
distinct-of_apart [] apart = refl
distinct-of_apart (s ∷ ss) apart =
    distinct-append (in_order s.1) (partitions_in ss) (distinct-in_order s.1)
    (distinct-of_apart ss (AllPairs-rest ShareNothing s ss apart))
    (λ q there.
    elim (among q (partitions_in ss)) as (λ b. among q (partitions_in ss) ≡ b → b ≡ false) [
      | true ↦ λ too.
          let other = among-share ss q too in
          absurd (true≢false (sym other.2 ∙ apart_of_common partition_cmp_total partition_cmp-IsAntisymmetric s.1 other.0.1 (AllPairs-first ShareNothing s ss apart other.0 other.1) q (has-in_order s.1 q ∙ there)))
      | false ↦ λ away. refl
    ] refl)

-- as a set and as a list the partitions are as many, exactly where no two shares have one
pub counted_apart : (shares : List (Text × Partitions)) (b : Bool) → b ≡ (size (of_list {R = partition_cmp} (partitions_in shares)) == length (partitions_in shares)) → IsTrue b ↔ SetsAreApart shares
counted_apart shares b is =
    let distinct = is ∙ size-distinct (partitions_in shares) in
    (λ so. apart-of_distinct shares (sym distinct ∙ so), λ apart. distinct ∙ distinct-of_apart shares apart)
