-- An index of a topic is a number from 0 on.
use Rattle.std.proofs.Common.{◌≡◌, ℕ, ◌<◌, ℤ, pos, negsuc, refl, sym, ap, ◌∙◌, true≢false, lt-ltb, ltb-true}
use Rattle.group_types.specs.Owners.{is_index, IsIndex}

pub index_of : (z : ℤ) (count : ℕ) → IsIndex z count → (i : ℕ) × (z ≡ pos i) × (i < count)
index_of (pos i) count is = (i, refl, ltb-true i count is)
index_of (negsuc i) count is = absurd (true≢false (sym is))

pub index_below : (z : ℤ) (i count : ℕ) → z ≡ pos i → i < count → IsIndex z count
index_below z i count is below = ap (λ k. is_index k count) is ∙ lt-ltb i count below
