-- Indexes that aren't below 0.
use Rattle.std.proofs.Common.{◌≡◌, ℕ, ℤ, Option, pos, negsuc, ◌&&◌, Bool, true, false, IsTrue, refl, sym, ◌∙◌, arith, true≢false}
use Rattle.std.specs.Prelude.{◌≤ℤ◌}
use Rattle.std.proofs.lemmas.Int.{ints}
use Rattle.group_types.specs.declared.partition.Partition.{Partition}
use Rattle.group_types.specs.Sets.{has, nothing}
use Rattle.group_types.specs.Partition.{Partitions, partition_cmp}
use Rattle.group_types.proofs.SetLemmas.{has-nothing}
use Rattle.group_reconcile.specs.Holders.{AreFromZero, is_from_zero}
use Rattle.group_reconcile.specs.Settling.{IsNext, may_take}
use Rattle.group_reconcile.specs.Tables.{Cells}
use Rattle.group_reconcile.proofs.AllOfSets.{all_of_set, both}

pub from_zero : (k : ℤ) → is_from_zero k ≡ true → pos 0 ≤ℤ k
from_zero (pos n) is = omega (arith, ints)
from_zero (negsuc n) is = absurd (true≢false (sym is))

-- the next partitions are among those of the target
pub next_from_zero : (cells : Cells) (number : Option ℕ) (target next : Partitions) → IsNext cells number target next → AreFromZero target → AreFromZero next
next_from_zero cells number target next is all =
    (all_of_set (λ p. is_from_zero p.index) next).1
    (λ p inside. (all_of_set (λ p. is_from_zero p.index) target).0 all p (both (has target p) (may_take cells number p) (sym (is p) ∙ inside)).0)

pub nothing_from_zero : AreFromZero nothing
nothing_from_zero = (all_of_set (λ p. is_from_zero p.index) nothing).1 (λ p inside. absurd (true≢false (sym inside ∙ has-nothing partition_cmp p)))
