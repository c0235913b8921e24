-- What has a number in a list, after something else got it, or one more came.
use Rattle.std.proofs.Common.{◌≡◌, ◌≢◌, ◌⊎◌, ℕ, zero, suc, ◌==◌, true, false, List, [], ◌∷◌, ◌++◌, map, set, slice_get, Option, Some, None, refl, sym, ap, ◌∙◌, inl, inr, true≢false}
use Rattle.std.specs.List.{Contains}
use Rattle.std.specs.Option.{option_map}
use Rattle.std.proofs.lemmas.Bool.Decides.{Decides-eqb}
use Rattle.std.proofs.lemmas.List.Elements.{Contains-append_cases}
use Rattle.std.proofs.lemmas.Option.{slice_get-map}
use Rattle.group_types.proofs.Lookups.{not_none, some_is}
use Rattle.world_sim.specs.World.{numbered, renumbered}
use Rattle.world_sim.proofs.Lists.{In, from_in, to_in}

-- a number is another one or it isn't
pub data Place (k n : ℕ) : Type 0 where
  at : k ≡ n → Place k n
  elsewhere : k ≢ n → Place k n

pub place : (k n : ℕ) → Place k n
place k n =
    elim (k == n) as (λ b. (k == n) ≡ b → Place k n) [
      | true ↦ λ so. at ((Decides-eqb k n).0 so)
      | false ↦ λ apart. elsewhere (λ same. true≢false (sym ((Decides-eqb k n).1 same) ∙ apart))
    ] refl

module _ {X : Type 0} where
  set_itself : (xs : List X) (n : ℕ) (y x : X) → slice_get xs n ≡ Some x → slice_get (set xs n y) n ≡ Some y
  set_itself [] n y x is = absurd (not_none x is)
  set_itself (z ∷ xs) zero y x is = refl
  set_itself (z ∷ xs) (suc n) y x is = set_itself xs n y x is

  set_gives : (xs : List X) (n : ℕ) (y z : X) → slice_get (set xs n y) n ≡ Some z → z ≡ y
  set_gives [] zero y z is = absurd (not_none z is)
  set_gives [] (suc n) y z is = absurd (not_none z is)
  set_gives (x ∷ xs) zero y z is = sym (some_is y z is)
  set_gives (x ∷ xs) (suc n) y z is = set_gives xs n y z is

  set_other : (xs : List X) (n k : ℕ) (y : X) → k ≢ n → slice_get (set xs n y) k ≡ slice_get xs k
  set_other [] zero k y other = refl
  set_other [] (suc n) k y other = refl
  set_other (x ∷ xs) zero zero y other = absurd (other refl)
  set_other (x ∷ xs) zero (suc k) y other = refl
  set_other (x ∷ xs) (suc n) zero y other = refl
  set_other (x ∷ xs) (suc n) (suc k) y other = set_other xs n k y (λ same. other (ap suc same))

  pub numbered_itself : (xs : List X) (n : ℕ) (y x : X) → numbered xs n ≡ Some x → numbered (renumbered xs n y) n ≡ Some y
  numbered_itself xs zero y x is = absurd (not_none x is)
  numbered_itself xs (suc n) y x is = set_itself xs n y x is

  pub numbered_other : (xs : List X) (n k : ℕ) (y : X) → k ≢ n → numbered (renumbered xs n y) k ≡ numbered xs k
  numbered_other xs zero k y other = refl
  numbered_other xs (suc n) zero y other = refl
  numbered_other xs (suc n) (suc k) y other = set_other xs n k y (λ same. other (ap suc same))

  numbered_gives : (xs : List X) (n : ℕ) (y z : X) → numbered (renumbered xs n y) n ≡ Some z → z ≡ y
  numbered_gives xs zero y z is = absurd (not_none z is)
  numbered_gives xs (suc n) y z is = set_gives xs n y z is

  -- what has a number now is what got it, or had it before
  pub data Has (xs : List X) (n : ℕ) (y : X) (k : ℕ) (z : X) : Type 0 where
    changed : k ≡ n → z ≡ y → Has xs n y k z
    unchanged : k ≢ n → numbered xs k ≡ Some z → Has xs n y k z

  pub has_number : (xs : List X) (n : ℕ) (y : X) (k : ℕ) (z : X) → numbered (renumbered xs n y) k ≡ Some z → Has xs n y k z
  has_number xs n y k z is = by (place k n)
    where
      by : Place k n → Has xs n y k z
      by (at same) = changed same (numbered_gives xs n y z (ap (numbered (renumbered xs n y)) (sym same) ∙ is))
      by (elsewhere other) = unchanged other (sym (numbered_other xs n k y other) ∙ is)

  -- what has a number is in the list
  slice_in : (xs : List X) (n : ℕ) (x : X) → slice_get xs n ≡ Some x → In xs x
  slice_in [] n x is = absurd (not_none x is)
  slice_in (y ∷ xs) zero x is = inl (some_is y x is)
  slice_in (y ∷ xs) (suc n) x is = inr (slice_in xs n x is)

  pub numbered_in : (xs : List X) (n : ℕ) (x : X) → numbered xs n ≡ Some x → Contains xs x
  numbered_in xs zero x is = absurd (not_none x is)
  numbered_in xs (suc n) x is = from_in xs x (slice_in xs n x is)

  -- what is in a list with one more is that one, or was there
  pub one_more : (xs : List X) (x y : X) → Contains (xs ++ x ∷ []) y → Contains xs y ⊎ (y ≡ x)
  one_more xs x y there = by (Contains-append_cases xs (x ∷ []) y there)
    where
      last : In (x ∷ []) y → y ≡ x
      last (inl is) = sym is
      last (inr never) = absurd never

      by : Contains xs y ⊎ Contains (x ∷ []) y → Contains xs y ⊎ (y ≡ x)
      by (inl before) = inl before
      by (inr it) = inr (last (to_in (x ∷ []) y it))

-- what has a number among the images of others
pub numbered_map : {X Y : Type 0} (f : X → Y) (xs : List X) (n : ℕ) (y : Y) → numbered (map f xs) n ≡ Some y → (x : X) × (numbered xs n ≡ Some x) × (f x ≡ y)
numbered_map f xs zero y is = absurd (not_none y is)
numbered_map f xs (suc n) y is = by (slice_get xs n) refl (sym (slice_get-map f xs n) ∙ is)
  where
    by : (o : Option _) → slice_get xs n ≡ o → option_map f o ≡ Some y → (x : _) × (slice_get xs n ≡ Some x) × (f x ≡ y)
    by None none is = absurd (not_none y is)
    by (Some x) there is = (x, there, some_is (f x) y is)
