-- What holds of all partitions of a set.
use Rattle.std.proofs.Common.{◌≡◌, Bool, true, false, ◌&&◌, ◌||◌, List, [], ◌∷◌, IsTrue, refl, sym, ap, ◌∙◌, true≢false}
use Rattle.std.specs.Prelude.{◌↔◌}
use Rattle.std.specs.List.{list_all, list_any}
use Rattle.std.specs.Ordering.{eq_by_cmp, is_eq}
use Rattle.std.specs.Cmp.{Equal-is}
use Rattle.group_types.specs.declared.partition.Partition.{Partition}
use Rattle.group_types.specs.Sets.{has, in_order}
use Rattle.group_types.specs.Partition.{Partitions, partition_cmp}
use Rattle.group_types.proofs.Orders.{partition_cmp-IsAntisymmetric, partition_cmp-itself}
use Rattle.group_types.proofs.SetLemmas.{has-in_order}
use Rattle.group_reconcile.proofs.Bools.{or_second}

pub both : (a b : Bool) → (a && b) ≡ true → (a ≡ true) × (b ≡ true)
both true b is = (refl, is)
both false b is = absurd (true≢false (sym is))

pub both_true : (a b : Bool) → a ≡ true → b ≡ true → (a && b) ≡ true
both_true true b one other = other
both_true false b one other = absurd (true≢false (sym one))

holds_for : (f : Partition → Bool) (ps : List Partition) → list_all f ps ≡ true → (p : Partition) → list_any (eq_by_cmp partition_cmp p) ps ≡ true → f p ≡ true
holds_for f [] all p there = absurd (true≢false (sym there))
holds_for f (q ∷ qs) all p there =
    let parts = both (f q) (list_all f qs) all in
    elim (eq_by_cmp partition_cmp p q) as (λ b. eq_by_cmp partition_cmp p q ≡ b → (b || list_any (eq_by_cmp partition_cmp p) qs) ≡ true → f p ≡ true) [
      | true ↦ λ same _. ap f (partition_cmp-IsAntisymmetric p q ((Equal-is (partition_cmp p q)).0 same)) ∙ parts.0
      | false ↦ λ _ later. holds_for f qs parts.1 p later
    ] refl there

all_hold : (f : Partition → Bool) (ps : List Partition) → ((p : Partition) → list_any (eq_by_cmp partition_cmp p) ps ≡ true → f p ≡ true) → list_all f ps ≡ true
all_hold f [] each = refl
all_hold f (q ∷ qs) each =
    both_true (f q) (list_all f qs)
    (each q (ap (λ o. is_eq o || list_any (eq_by_cmp partition_cmp q) qs) (partition_cmp-itself q)))
    (all_hold f qs (λ p there. each p (or_second (eq_by_cmp partition_cmp p q) _ there)))

-- a test holds for the list of a set if it does for each partition that the set has
pub all_of_set : (f : Partition → Bool) (s : Partitions) → IsTrue (list_all f (in_order s)) ↔ ((p : Partition) → IsTrue (has s p) → f p ≡ true)
all_of_set f s = (
  λ all p there. holds_for f (in_order s) all p (sym (has-in_order s p) ∙ there),
  λ each. all_hold f (in_order s) (λ p there. each p (has-in_order s p ∙ there)),
)
