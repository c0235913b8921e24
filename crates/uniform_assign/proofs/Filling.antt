-- Partitions that have no owner can be given one, each to the subscriber that owns the fewest.
use Rattle.std.proofs.Common.{◌≡◌, ℕ, zero, suc, ◌<◌, ◌≤◌, List, [], ◌∷◌, refl, subst, arith, inl, inr, Some, None}
use Rattle.std.specs.FinMap as finite
use Rattle.std.specs.List.{Contains, slice_get}
use Rattle.std.specs.Option.{MatchOption}
use Rattle.std.proofs.lemmas.Bool.{cases_lt}
use Rattle.std.proofs.lemmas.Option.{same_Some}
use Rattle.group_types.specs.declared.partition.Partition.{Partition}
use Rattle.group_types.specs.Text.{Text}
use Rattle.group_types.specs.Assignors.{Subscriber, subscribers_of}
use Rattle.group_types.specs.Owners.{Spread}
use Rattle.group_types.specs.Uniform.{AreFilled, Fills, GoesTo, IsFewest, count}

module _ (spread : Spread) where
  -- what holds of the first and of the later ones holds of all
  at_each : (P : Subscriber → Type 0) (m : Subscriber) (ms : List Subscriber) → P m → ((k : ℕ) (n : Subscriber) → slice_get ms k ≡ Some n → P n)
      → (k : ℕ) (n : Subscriber) → slice_get (m ∷ ms) k ≡ Some n → P n
  at_each P m ms here later zero n is = subst P (same_Some m n is) here
  at_each P m ms here later (suc k) n is = later k n is

  earlier_own_more : (m n : Subscriber) (ms : List Subscriber) (best : IsFewest spread ms n) → count spread n.id < count spread m.id → (k : ℕ) (o : Subscriber) → k < suc best.place
      → slice_get (m ∷ ms) k ≡ Some o → count spread n.id < count spread o.id
  earlier_own_more m n ms best less zero o low is = subst (λ s. count spread n.id < count spread s.id) (same_Some m o is) less
  earlier_own_more m n ms best less (suc k) o low is = best.first k o (omega arith) is

  pub fewest_of : (m : Subscriber) (ms : List Subscriber) → (n : Subscriber) × IsFewest spread (m ∷ ms) n
  fewest_of m [] = (
    m,
    record {
      place = 0;
      is_there = refl;
      fewest = at_each (λ o. count spread m.id ≤ count spread o.id) m [] (omega arith) (λ k n is. cc);
      first = λ k n low is. absurd (omega arith);
    },
  )
  fewest_of m (x ∷ xs) =
      let (n, best) = fewest_of x xs in
      elim (cases_lt (count spread n.id) (count spread m.id)) [
        | inl less ↦ (
          n,
          record {
            place = suc best.place;
            is_there = best.is_there;
            fewest = at_each (λ o. count spread n.id ≤ count spread o.id) m (x ∷ xs) (omega arith) best.fewest;
            first = earlier_own_more m n (x ∷ xs) best less;
          },
        )
        | inr more ↦ (
          m,
          record {
            place = 0;
            is_there = refl;
            fewest = at_each (λ o. count spread m.id ≤ count spread o.id) m (x ∷ xs) (omega arith) (λ k o is. let few = best.fewest k o is in omega arith);
            first = λ k n low is. absurd (omega arith);
          },
        )
      ]

  pub fewest_among : (members : List Subscriber) (x : Subscriber) → Contains members x → (n : Subscriber) × IsFewest spread members n
  fewest_among [] x there = absurd (let within = there.1 in omega arith)
  fewest_among (m ∷ ms) x there = fewest_of m ms

  goes : (takers : List Subscriber) (p : Partition) → (new : Spread) × GoesTo spread takers p new
  goes [] p = (spread, refl)
  goes (m ∷ ms) p = let (n, fewest) = fewest_of m ms in (finite.insert spread p n.id, (n, fewest, refl))

  fills : (subs : List Subscriber) (x : Text × Partition) → (new : Spread) × Fills subs spread x new
  fills subs x =
      elim (finite.get spread x.1) as (λ o. (new : Spread) × MatchOption o (GoesTo spread (subscribers_of subs x.0) x.1 new) (λ _. new ≡ spread)) [
        | None ↦ goes (subscribers_of subs x.0) x.1
        | Some id ↦ (spread, refl)
      ]

pub fills_all : (subs : List Subscriber) (spread : Spread) (xs : List (Text × Partition)) → (new : Spread) × AreFilled subs spread xs new
fills_all subs spread [] = (spread, refl)
fills_all subs spread (x ∷ xs) =
    let (next, fill) = fills spread subs x in
    let (new, later) = fills_all subs next xs in
    (new, (next, fill, later))
