-- What a member that may move gives up and gets.
use Rattle.std.proofs.Common.{◌≡◌, Bool, true, false, cond, not, ◌&&◌, ◌||◌, Option, Some, None, refl, sym, ap, ◌∙◌, true≢false}
use Rattle.std.specs.Ordering.{eq_by_cmp}
use Rattle.std.specs.Cmp.{second_so}
use Rattle.group_types.specs.declared.partition.Partition.{Partition}
use Rattle.group_types.specs.Text.{Text, text_cmp}
use Rattle.group_types.specs.Sets.{nothing, has, minus, common, is_nothing}
use Rattle.group_types.specs.Partition.{partition_cmp, Partitions}
use Rattle.group_types.specs.Group.{Grants}
use Rattle.group_types.specs.Settle.{moved, is_free_for, may_move}
use Rattle.group_types.proofs.Orders.{partition_cmp_total, partition_cmp-IsAntisymmetric}
use Rattle.group_types.proofs.SetLemmas.{has-nothing, has-minus, is_nothing-Decides, apart_of_common}
use Rattle.group_types.proofs.GrantLemmas.{free_is, has-moved}
use Rattle.group_types.proofs.Lookups.{text_ties}
use Rattle.world_sim.specs.Turn.{Holds, IsFreeFor, IsReported}

only_one : (a b : Bool) → (a && not b) ≡ false → a ≡ true → b ≡ true
only_one true true none so = so
only_one true false none so = absurd (true≢false none)
only_one false b none so = absurd (true≢false (sym so))

-- ---- the grants of a member that moved

module _ (grants : Grants) (m : Text) where
  pub moved_other : (target : Partitions) (n : Text) (p : Partition) → eq_by_cmp text_cmp n m ≡ false → has (moved grants m target) (n, p) ≡ has grants (n, p)
  moved_other target n p apart =
      has-moved grants m target n p
      ∙ ap (λ b. cond b (has target p && (has grants (m, p) || is_free_for grants m p)) (has grants (n, p))) apart

  pub moved_own : (target : Partitions) (p : Partition) → has (moved grants m target) (m, p) ≡ (has target p && (has grants (m, p) || is_free_for grants m p))
  moved_own target p =
      has-moved grants m target m p
      ∙ ap (λ b. cond b (has target p && (has grants (m, p) || is_free_for grants m p)) (has grants (m, p))) (text_ties m)

  pub moved_kept : (target : Partitions) (p : Partition) → Holds grants m p → has target p ≡ true → Holds (moved grants m target) m p
  moved_kept target p holds wants = moved_own target p ∙ (λ i. wants i && (holds i || is_free_for grants m p))

  pub moved_gets : ((a b : Text) (p : Partition) → Holds grants a p → Holds grants b p → a ≡ b)
      → (target : Partitions) (p : Partition) → Holds (moved grants m target) m p → IsFreeFor grants m p
  moved_gets one target p there n holds = by_own (has grants (m, p)) refl (second_so (has target p) _ (sym (moved_own target p) ∙ there))
    where
      by_own : (b : Bool) → has grants (m, p) ≡ b → (b || is_free_for grants m p) ≡ true → n ≡ m
      by_own true own so = one n m p holds own
      by_own false own so = free_is grants m p so n holds

-- ---- what stays of what it held

pub none_left : (s t : Partitions) → minus s t ≡ nothing → (p : Partition) → has s p ≡ true → has t p ≡ true
none_left s t none p = only_one (has s p) (has t p) (sym (has-minus partition_cmp_total s t p) ∙ ap (λ left. has left p) none ∙ has-nothing partition_cmp p)

-- a member that may move has in its target what it holds and reports
pub may_keep : (own target : Partitions) (owned : Option Partitions) → may_move (minus own target) owned ≡ true
    → (p : Partition) → has own p ≡ true → IsReported owned p → has target p ≡ true
may_keep own target None may p holds reported = none_left own target ((is_nothing-Decides (minus own target)).0 may) p holds
may_keep own target (Some owned) may p holds reported = by_rest (is_nothing (minus own target)) refl may
  where
    by_rest : (b : Bool) → is_nothing (minus own target) ≡ b → (b || is_nothing (common owned (minus own target))) ≡ true → has target p ≡ true
    by_rest true none may = none_left own target ((is_nothing-Decides (minus own target)).0 none) p holds
    by_rest false some may =
        only_one (has own p) (has target p)
        (sym (has-minus partition_cmp_total own target p)
        ∙ apart_of_common partition_cmp_total partition_cmp-IsAntisymmetric owned (minus own target) ((is_nothing-Decides (common owned (minus own target))).0 may) p reported)
        holds
