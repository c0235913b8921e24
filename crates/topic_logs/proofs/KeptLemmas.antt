-- Lemmas on the batches that a log keeps.
use Rattle.std.proofs.Common.{◌≡◌, ℕ, zero, suc, ◌+◌, ◌<◌, ◌≤◌, ◌++◌, length, drop, cond, true, false, leb, List, [], ◌∷◌, get_or, refl, ap, ◌∙◌, arith}
use Rattle.std.proofs.lemmas.Grind.{common_steps}
use Rattle.std.proofs.lemmas.Bool.Decides.{nat_tests}
use Rattle.std.proofs.lemmas.List.{map-append}
use Rattle.std.proofs.lemmas.List.Sums.{sum_by-append}
use Rattle.std.specs.List.Sorted.{IsPartitionedBy}
use Rattle.topic_logs.specs.declared.kept.KeptBatch.{KeptBatch}
use Rattle.topic_logs.specs.Log.{Batch, batch_of, batches_of, from_offset, start_of, size_of, retained, AreConsecutive}

-- from a place on, where the batches before it end at or before the offset and the others after it
pub from_offset-place : (xs : List KeptBatch) (i offset : ℕ)
    → ((k : ℕ) (d : KeptBatch) → k < i → leb (get_or xs k d).next offset ≡ true)
    → ((k : ℕ) (d : KeptBatch) → i ≤ k → k < length xs → leb (get_or xs k d).next offset ≡ false)
    → batches_of (drop i xs) ≡ from_offset offset (batches_of xs)
from_offset-place [] i offset before after = grind (arith, common_steps)
from_offset-place (x ∷ xs) zero offset before after =
    let here : leb x.next offset ≡ false = after 0 x (omega arith) (omega arith) in
    let rest : batches_of (drop 0 xs) ≡ from_offset offset (batches_of xs) =
    from_offset-place xs 0 offset (λ k d below. absurd (omega arith)) (λ k d from_here below. after (suc k) d (omega arith) (omega arith)) in
    grind (arith, nat_tests, common_steps)
from_offset-place (x ∷ xs) (suc i) offset before after =
    let here : leb x.next offset ≡ true = before 0 x (omega arith) in
    let rest : batches_of (drop i xs) ≡ from_offset offset (batches_of xs) =
    from_offset-place xs i offset (λ k d below. before (suc k) d (omega arith)) (λ k d from_here below. after (suc k) d (omega arith) (omega arith)) in
    grind (arith, nat_tests, common_steps)

-- the first offset is no later than the end
pub start_of-end : (bs : List Batch) (end : ℕ) → AreConsecutive bs end → start_of bs end ≤ end
start_of-end [] end consecutive = omega arith
start_of-end (b ∷ bs) end consecutive = omega (arith, consecutive.0, consecutive.1, start_of-end bs end consecutive.2)

-- a batch ends no later than a batch after it
pub next-rises : (xs : List KeptBatch) (end i j : ℕ) (d : KeptBatch) → AreConsecutive (batches_of xs) end
    → i ≤ j → j < length xs → (get_or xs i d).next ≤ (get_or xs j d).next
next-rises [] end i j d consecutive rises within = absurd (omega arith)
next-rises (x ∷ xs) end zero zero d consecutive rises within = omega arith
next-rises (x ∷ []) end zero (suc j) d consecutive rises within = absurd (omega arith)
next-rises (x ∷ (y ∷ xs)) end zero (suc j) d consecutive rises within =
    let after_it : y.next ≤ (get_or (y ∷ xs) j d).next = next-rises (y ∷ xs) end 0 j d consecutive.2 (omega arith) (omega arith) in
    omega (arith, consecutive.1, consecutive.2.0)
next-rises (x ∷ xs) end (suc i) zero d consecutive rises within = absurd (omega arith)
next-rises (x ∷ xs) end (suc i) (suc j) d consecutive rises within = next-rises xs end i j d consecutive.2 (omega arith) (omega arith)

-- the batches are parted by whether they end at the offset or before it
pub IsPartitionedBy-next : (xs : List KeptBatch) (end offset : ℕ) → AreConsecutive (batches_of xs) end → IsPartitionedBy (λ (b : KeptBatch). leb b.next offset) xs
IsPartitionedBy-next xs end offset consecutive i j d rises within passes =
    let ends_later : (get_or xs i d).next ≤ (get_or xs j d).next = next-rises xs end i j d consecutive rises within in
    grind (arith, nat_tests)

-- nothing goes if there is one batch or none
pub retained-few : (retain : ℕ) (xs : List KeptBatch) → length xs ≤ 1 → retained retain (batches_of xs) ≡ batches_of xs
retained-few retain [] few = refl
retained-few retain (x ∷ []) few = refl
retained-few retain (x ∷ (y ∷ xs)) few = absurd (omega arith)

-- nothing goes if the batches fit
pub retained-fits : (retain : ℕ) (bs : List Batch) → size_of bs ≤ retain → retained retain bs ≡ bs
retained-fits retain [] fits = refl
retained-fits retain (b ∷ []) fits = refl
retained-fits retain (b ∷ (c ∷ bs)) fits = grind (arith, nat_tests)

-- a batch at the end
pub AreConsecutive-push : (bs : List Batch) (b : Batch) → AreConsecutive bs b.first → b.first < b.next → AreConsecutive (bs ++ b ∷ []) b.next
AreConsecutive-push [] b consecutive some = (some, refl, tt)
AreConsecutive-push (x ∷ []) b consecutive some = (consecutive.0, consecutive.1, AreConsecutive-push [] b tt some)
AreConsecutive-push (x ∷ (y ∷ bs)) b consecutive some = (consecutive.0, consecutive.1, AreConsecutive-push (y ∷ bs) b consecutive.2 some)

-- the batches that stay
pub AreConsecutive-retained : (retain : ℕ) (bs : List Batch) (end : ℕ) → AreConsecutive bs end → AreConsecutive (retained retain bs) end
AreConsecutive-retained retain [] end consecutive = tt
AreConsecutive-retained retain (b ∷ []) end consecutive = consecutive
AreConsecutive-retained retain (b ∷ (c ∷ bs)) end consecutive =
    elim (leb (size_of (b ∷ (c ∷ bs))) retain) as (λ v. AreConsecutive (cond v (b ∷ (c ∷ bs)) (retained retain (c ∷ bs))) end) [
      | true ↦ consecutive
      | false ↦ AreConsecutive-retained retain (c ∷ bs) end consecutive.2
    ]

pub batches_of-push : (xs : List KeptBatch) (x : KeptBatch) → batches_of (xs ++ x ∷ []) ≡ batches_of xs ++ batch_of x ∷ []
batches_of-push xs x = map-append batch_of xs (x ∷ [])

pub size_of-push : (bs : List Batch) (b : Batch) → size_of (bs ++ b ∷ []) ≡ size_of bs + length b.bytes
size_of-push bs b = sum_by-append (λ (x : Batch). length x.bytes) bs (b ∷ []) ∙ ap (λ (n : ℕ). size_of bs + n) (omega arith)
