-- What an offer of its target does to the grants of a member.
use Rattle.std.proofs.Common.{◌≡◌, ℕ, Bool, true, false, cond, not, ◌&&◌, ◌||◌, List, [], ◌∷◌, map, refl, sym, ap, ◌∙◌, Option, Some, None}
use Rattle.std.specs.List.{list_any}
use Rattle.std.specs.Ordering.{eq_by_cmp}
use Rattle.std.specs.Cmp.{Equal-is}
use Rattle.group_types.specs.declared.partition.Partition.{Partition}
use Rattle.group_types.specs.Sets.{nothing, has, with_one, common, minus, in_order, is_nothing}
use Rattle.group_types.specs.Partition.{Partitions, partition_cmp}
use Rattle.group_types.specs.Settle.{may_move}
use Rattle.group_types.proofs.BoolLemmas.{or_known, or_none}
use Rattle.group_types.proofs.Orders.{partition_cmp_total, partition_cmp-IsAntisymmetric}
use Rattle.group_types.proofs.SetLemmas.{entries-nothing, has-common, has-in_order, has-minus, has-nothing, has-with_one, is_nothing-Decides, same_set}
use Rattle.group_reconcile.specs.Settling.{IsNext, is_kept, may_take, taken_of, with_if_free}
use Rattle.group_reconcile.specs.Tables.{Cells}
use Rattle.group_reconcile.proofs.Tests.{is_nothing-tested}
use Rattle.group_reconcile.proofs.Bools.{and_false, and_true}

-- ---- whether the member may move

-- it may where nothing of what it holds is kept
pub may_move-tested : (parts target : Partitions) (owned : Option Partitions) → may_move (minus parts target) owned ≡ not (list_any (is_kept target owned) (in_order parts))
may_move-tested parts target None =
    is_nothing-tested partition_cmp_total partition_cmp-IsAntisymmetric (minus parts target) parts (is_kept target None) (λ q.
    has-minus partition_cmp_total parts target q ∙ ap (λ b. has parts q && b) (sym (and_true (not (has target q)))))
may_move-tested parts target (Some owned) =
    or_known (is_nothing (minus parts target)) (is_nothing (common owned (minus parts target))) (λ so. (is_nothing-Decides (common owned (minus parts target))).1 (no_common ((is_nothing-Decides (minus parts target)).0 so)))
    ∙ is_nothing-tested partition_cmp_total partition_cmp-IsAntisymmetric (common owned (minus parts target)) parts (is_kept target (Some owned)) (λ q.
    has-common partition_cmp_total owned (minus parts target) q
    ∙ ap (λ b. has owned q && b) (has-minus partition_cmp_total parts target q)
    ∙ regroup (has owned q) (has parts q) (not (has target q)))
  where
    regroup : (a b c : Bool) → (a && (b && c)) ≡ (b && (c && a))
    regroup true true true = refl
    regroup true true false = refl
    regroup true false c = refl
    regroup false true true = refl
    regroup false true false = refl
    regroup false false c = refl

    no_common : minus parts target ≡ nothing → common owned (minus parts target) ≡ nothing
    no_common none =
        same_set partition_cmp_total partition_cmp-IsAntisymmetric _ _
        (λ q. has-common partition_cmp_total owned (minus parts target) q ∙ ap (λ b. has owned q && b) (ap (λ s. has s q) none ∙ has-nothing partition_cmp q) ∙ and_false (has owned q) ∙ sym (has-nothing partition_cmp q))

pub may_move-nothing : (target : Partitions) (owned : Option Partitions) → may_move (minus nothing target) owned ≡ true
may_move-nothing target owned =
    may_move-tested nothing target owned ∙ ap (λ es. not (list_any (is_kept target owned) (map (λ e. e.0) es))) (entries-nothing partition_cmp)

-- ---- the next partitions

has-taken_of : (cells : Cells) (number : Option ℕ) (next : Partitions) (ps : List Partition) (q : Partition)
    → has (taken_of cells number next ps) q ≡ (has next q || (list_any (eq_by_cmp partition_cmp q) ps && may_take cells number q))
has-taken_of cells number next [] q = sym (or_none (has next q))
has-taken_of cells number next (p ∷ ps) q =
    has-taken_of cells number (with_if_free cells number next p) ps q
    ∙ ap (λ b. b || (list_any (eq_by_cmp partition_cmp q) ps && may_take cells number q)) (with_it (may_take cells number p))
    ∙ taken (eq_by_cmp partition_cmp q p) (has next q) (may_take cells number p) (list_any (eq_by_cmp partition_cmp q) ps) (may_take cells number q)
    (λ tie. ap (may_take cells number) (partition_cmp-IsAntisymmetric q p ((Equal-is (partition_cmp q p)).0 tie)))
  where
    taken : (a n t rest m : Bool) → (a ≡ true → m ≡ t) → (cond t (a || n) n || (rest && m)) ≡ (n || ((a || rest) && m))
    taken true true true rest m is = refl
    taken true false true rest m is = sym (is refl)
    taken true true false rest m is = refl
    taken true false false true m is = refl
    taken true false false false m is = sym (is refl)
    taken false n true rest m is = refl
    taken false n false rest m is = refl

    with_it : (t : Bool) → has (cond t (with_one next p) next) q ≡ cond t (eq_by_cmp partition_cmp q p || has next q) (has next q)
    with_it true = has-with_one partition_cmp_total next p q
    with_it false = refl

pub IsNext-taken : (cells : Cells) (number : Option ℕ) (target : Partitions) → IsNext cells number target (taken_of cells number nothing (in_order target))
IsNext-taken cells number target q =
    has-taken_of cells number nothing (in_order target) q
    ∙ (λ i. has-nothing partition_cmp q i || (sym (has-in_order target q) i && may_take cells number q))

pub IsNext-nothing : (cells : Cells) (number : Option ℕ) → IsNext cells number nothing nothing
IsNext-nothing cells number q = has-nothing partition_cmp q ∙ sym (ap (λ b. b && may_take cells number q) (has-nothing partition_cmp q))
