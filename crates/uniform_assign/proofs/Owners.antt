-- Who owns a partition once another owner was written, and spreads that have the same owners.
use Rattle.std.proofs.Common.{◌≡◌, ◌⊎◌, ◌↔◌, true, false, cond, refl, sym, ap, ◌∙◌, inl, inr, Option, Some, None}
use Rattle.std.specs.Cmp.{Equal-is}
use Rattle.std.specs.FinMap as finite
use Rattle.std.specs.Ordering.{eq_by_cmp}
use Rattle.group_types.specs.declared.partition.Partition.{Partition}
use Rattle.group_types.specs.Text.{Text}
use Rattle.group_types.specs.Partition.{partition_cmp}
use Rattle.group_types.specs.Owners.{Spread}
use Rattle.group_types.proofs.Orders.{partition_cmp-IsAntisymmetric, partition_cmp-itself, partition_cmp_total}

pub tied_is : (p q : Partition) → eq_by_cmp partition_cmp p q ≡ true → p ≡ q
tied_is p q tie = partition_cmp-IsAntisymmetric p q ((Equal-is (partition_cmp p q)).0 tie)

pub same_tied : (p q : Partition) → p ≡ q → eq_by_cmp partition_cmp p q ≡ true
same_tied p q same = (Equal-is (partition_cmp p q)).1 (ap (partition_cmp p) (sym same) ∙ partition_cmp-itself p)

pub cases_partition : (p q : Partition) → (p ≡ q) ⊎ (p ≡ q → ⊥)
cases_partition p q =
    elim (eq_by_cmp partition_cmp p q) as (λ b. eq_by_cmp partition_cmp p q ≡ b → (p ≡ q) ⊎ (p ≡ q → ⊥)) [
      | true ↦ λ tie. inl (tied_is p q tie)
      | false ↦ λ apart. inr (λ same. let tie = same_tied p q same in cc)
    ] refl

pub get-insert_same : (s : Spread) (p q : Partition) (id : Text) → q ≡ p → finite.get (finite.insert s p id) q ≡ Some id
get-insert_same s p q id same = finite.get-insert partition_cmp_total s p id q ∙ ap (λ b. cond b (Some id) (finite.get s q)) (same_tied q p same)

pub get-insert_other : (s : Spread) (p q : Partition) (id : Text) → (q ≡ p → ⊥) → finite.get (finite.insert s p id) q ≡ finite.get s q
get-insert_other s p q id apart =
    finite.get-insert partition_cmp_total s p id q
    ∙ ap (λ b. cond b (Some id) (finite.get s q)) (
    elim (eq_by_cmp partition_cmp q p) as (λ b. eq_by_cmp partition_cmp q p ≡ b → b ≡ false) [
      | true ↦ λ tie. absurd (apart (tied_is q p tie))
      | false ↦ λ other. refl
    ] refl
    )

pub same_owners : (s t : Spread) → ((p : Partition) → finite.get s p ≡ finite.get t p) → s ≡ t
same_owners s t same = finite.same_map partition_cmp_total partition_cmp-IsAntisymmetric s t same

pub same_option : {X : Type 0} (a b : Option X) → ((x : X) → (a ≡ Some x) ↔ (b ≡ Some x)) → a ≡ b
same_option None None alike = refl
same_option (Some x) b alike = sym ((alike x).0 refl)
same_option None (Some y) alike = (alike y).1 refl

-- spreads with the same owners are one
pub same_spread : (s t : Spread) → ((p : Partition) (id : Text) → (finite.get s p ≡ Some id) ↔ (finite.get t p ≡ Some id)) → s ≡ t
same_spread s t alike = same_owners s t (λ p. same_option (finite.get s p) (finite.get t p) (alike p))
