-- A member that holds its target and nothing else: nothing comes of an offer.
use Rattle.std.proofs.Common.{◌≡◌, Bool, true, false, cond, ◌&&◌, ◌||◌, refl, sym, ap, ◌∙◌, Option, Some, None}
use Rattle.std.specs.Cmp.{Equal-is}
use Rattle.std.specs.Ordering.{eq_by_cmp}
use Rattle.group_types.specs.declared.partition.Partition.{Partition}
use Rattle.group_types.specs.Text.{Text, text_cmp}
use Rattle.group_types.specs.Sets.{common, has, is_nothing, minus}
use Rattle.group_types.specs.Partition.{Partitions}
use Rattle.group_types.specs.Group.{Grant, Grants, held}
use Rattle.group_types.specs.Settle.{grants_after, is_free_for, may_settle, moved}
use Rattle.group_types.proofs.GrantLemmas.{grant_cmp_total, grant_cmp-IsAntisymmetric, has-held, has-moved}
use Rattle.group_types.proofs.Orders.{partition_cmp_total, partition_cmp-IsAntisymmetric, text_cmp-IsAntisymmetric}
use Rattle.group_types.proofs.SetLemmas.{has-common, is_nothing-Decides, minus-itself, same_set}

module _ (g : Grants) (m : Text) (target : Partitions) (is : held g m ≡ target) where
  has-target : (q : Partition) → has target q ≡ has g (m, q)
  has-target q = ap (λ s. has s q) (sym is) ∙ has-held g m q

  grants_stay : moved g m target ≡ g
  grants_stay = same_set grant_cmp_total grant_cmp-IsAntisymmetric _ _ (λ k. has-moved g m target k.0 k.1 ∙ at k (eq_by_cmp text_cmp k.0 m) refl)
    where
      absorbed : (a b : Bool) → (a && (a || b)) ≡ a
      absorbed true b = refl
      absorbed false b = refl

      at : (k : Grant) (b : Bool) → eq_by_cmp text_cmp k.0 m ≡ b
          → cond b (has target k.1 && (has g (m, k.1) || is_free_for g m k.1)) (has g (k.0, k.1)) ≡ has g (k.0, k.1)
      at k true so =
          ap (λ a. a && (has g (m, k.1) || is_free_for g m k.1)) (has-target k.1)
          ∙ absorbed (has g (m, k.1)) (is_free_for g m k.1)
          ∙ ap (λ x. has g (x, k.1)) (sym (text_cmp-IsAntisymmetric k.0 m ((Equal-is (text_cmp k.0 m)).0 so)))
      at k false so = refl

  -- the member may settle
  pub may : (owned : Option Partitions) → may_settle g m target owned ≡ true
  may owned = by owned
    where
      none : is_nothing (minus (held g m) target) ≡ true
      none = (is_nothing-Decides (minus (held g m) target)).1 (ap (λ s. minus s target) is ∙ minus-itself partition_cmp_total partition_cmp-IsAntisymmetric target)

      by : (o : Option Partitions) → may_settle g m target o ≡ true
      by None = none
      by (Some set) = ap (λ b. b || is_nothing (common set (minus (held g m) target))) none

  -- the grants stay as they are
  pub kept : (may : Bool) → grants_after may g m target ≡ g
  kept true = grants_stay
  kept false = refl

  -- and the member is shown its target
  pub shown : (may : Bool) → target ≡ common (held (grants_after may g m target) m) target
  shown may = itself ∙ ap (λ s. common s target) (sym is) ∙ ap (λ h. common (held h m) target) (sym (kept may))
    where
      twice : (b : Bool) → b ≡ (b && b)
      twice true = refl
      twice false = refl

      itself : target ≡ common target target
      itself = same_set partition_cmp_total partition_cmp-IsAntisymmetric _ _ (λ q. twice (has target q) ∙ sym (has-common partition_cmp_total target target q))
