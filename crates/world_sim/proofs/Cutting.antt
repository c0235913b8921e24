-- A set with what it has in common with another, and a list that is mapped from its front.
use Rattle.std.proofs.Common.{◌≡◌, Bool, true, false, ◌&&◌, IsTrue, subst, ℕ, zero, suc, ◌+◌, ◌<◌, ◌≤◌, List, [], ◌∷◌, ◌++◌, length, map, set, take, drop, get_or, refl, sym, ap, ◌∙◌, add-one, arith}
use Rattle.group_types.specs.declared.partition.Partition.{Partition}
use Rattle.group_types.specs.Sets.{common, has}
use Rattle.group_types.specs.Partition.{Partitions}
use Rattle.group_types.proofs.Orders.{partition_cmp_total, partition_cmp-IsAntisymmetric}
use Rattle.group_types.proofs.SetLemmas.{has-common, same_set}

pub common_within : (s t : Partitions) → ((p : Partition) → IsTrue (has s p) → IsTrue (has t p)) → common s t ≡ s
common_within s t within = same_set partition_cmp_total partition_cmp-IsAntisymmetric _ _ (λ p. has-common partition_cmp_total s t p ∙ by (has s p) (has t p) (within p))
  where
    by : (a b : Bool) → (IsTrue a → IsTrue b) → (a && b) ≡ a
    by true b so = so refl
    by false b so = refl

pub common_same : (s t : Partitions) → s ≡ t → s ≡ common s t
common_same s t same = sym (common_within s t (λ p there. subst (λ (x : Partitions). IsTrue (has x p)) same there))

module _ {X : Type 0} where
  abbrev pub front : (X → X) → ℕ → List X → List X
  front f n xs = map f (take n xs) ++ drop n xs

  next : (f : X → X) (xs : List X) (n : ℕ) (d : X) → n < length xs → set (front f n xs) n (f (get_or (front f n xs) n d)) ≡ front f (suc n) xs
  next f [] n d below = absurd (omega (arith, below))
  next f (x ∷ xs) zero d below = refl
  next f (x ∷ xs) (suc n) d below = ap (λ ys. f x ∷ ys) (next f xs n d (omega (arith, below)))

  -- one more is mapped
  pub turned : (f : X → X) (xs items : List X) (n : ℕ) (d : X) → items ≡ front f n xs → n < length xs → set items n (f (get_or items n d)) ≡ front f (n + 1) xs
  turned f xs items n d is below =
      ap (λ ys. set ys n (f (get_or ys n d))) is ∙ next f xs n d below ∙ ap (λ k. front f k xs) (sym (add-one n))

  -- all are
  pub whole : (f : X → X) (xs : List X) (n : ℕ) → length xs ≤ n → front f n xs ≡ map f xs
  whole f [] zero past = refl
  whole f [] (suc n) past = refl
  whole f (x ∷ xs) zero past = absurd (omega (arith, past))
  whole f (x ∷ xs) (suc n) past = ap (λ ys. f x ∷ ys) (whole f xs n (omega (arith, past)))

  -- what stands before the rest
  pub before_rest : (xs ys : List X) (n : ℕ) → n ≡ length xs → take n (xs ++ ys) ≡ xs
  before_rest [] ys n is = ap (λ k. take k ys) is
  before_rest (x ∷ xs) ys n is = ap (λ k. take k (x ∷ xs ++ ys)) is ∙ ap (λ zs. x ∷ zs) (before_rest xs ys (length xs) refl)
