-- Finite sets: a set of keys in an order R is a finite map with nothing behind its keys.
use Rattle.std.specs.Prelude.{ℕ, Bool, not, ◌&&◌, ◌==◌, List, [], ◌∷◌, ◌++◌, length}
use Rattle.std.specs.declared.cmp.Ordering.{Ordering}
use Rattle.std.specs.FinMap as map

abbrev pub FinSet : {K : Type 0} → (K → K → Ordering) → Type 0
FinSet R = map.FinMap R (Unit {0})

module _ {K : Type 0} {R : K → K → Ordering} where
  abbrev pub nothing : FinSet R
  nothing = map.empty

  abbrev pub has : FinSet R → K → Bool
  has s x = map.contains_key s x

  abbrev pub with_one : FinSet R → K → FinSet R
  with_one s x = map.insert s x tt

  abbrev pub without : FinSet R → K → FinSet R
  without s x = map.remove s x

  -- what both have
  abbrev pub common : FinSet R → FinSet R → FinSet R
  common s t = map.retain_keys s (has t)

  -- what the first has and the second hasn't
  abbrev pub minus : FinSet R → FinSet R → FinSet R
  minus s t = map.retain_keys s (λ x. not (has t x))

  -- the keys, rising
  abbrev pub in_order : FinSet R → List K
  in_order s = map.keys s

  -- the keys of a list, repeated ones once
  abbrev pub of_list : List K → FinSet R
  of_list [] = nothing
  of_list (x ∷ xs) = with_one (of_list xs) x

  -- what either has
  abbrev pub union : FinSet R → FinSet R → FinSet R
  union s t = of_list (in_order s ++ in_order t)

  -- how many keys it has
  abbrev pub size : FinSet R → ℕ
  size s = length (in_order s)

  -- whether it has no key
  abbrev pub is_nothing : FinSet R → Bool
  is_nothing s = size s == 0

  -- whether no key is in both
  abbrev pub are_disjoint : FinSet R → FinSet R → Bool
  are_disjoint s t = is_nothing (common s t)

  -- whether each has what the other has
  abbrev pub are_same : FinSet R → FinSet R → Bool
  are_same s t = is_nothing (minus s t) && is_nothing (minus t s)
