-- What a member may read of its target once the target was offered to it.
use Rattle.std.proofs.Common.{◌≡◌, ℕ, Bool, true, false, cond, ◌&&◌, ◌||◌, refl, sym, ap, ◌∙◌, Option, Some, None}
use Rattle.std.specs.Option.{option_map, option_map_or}
use Rattle.std.specs.Ordering.{eq_by_cmp}
use Rattle.std.specs.FinMap as finite
use Rattle.group_types.specs.declared.partition.Partition.{Partition}
use Rattle.group_types.specs.Text.{Text, text_cmp}
use Rattle.group_types.specs.Sets.{common, has, nothing}
use Rattle.group_types.specs.Partition.{partition_cmp, Partitions}
use Rattle.group_types.specs.Group.{held}
use Rattle.group_types.specs.Settle.{moved}
use Rattle.group_types.proofs.GrantLemmas.{has-held, has-moved}
use Rattle.group_types.proofs.Lookups.{text_ties}
use Rattle.group_types.proofs.Orders.{partition_cmp_total, partition_cmp-IsAntisymmetric}
use Rattle.group_types.proofs.SetLemmas.{has-common, has-nothing, same_set}
use Rattle.group_reconcile.specs.declared.cell.Cell.{Cell}
use Rattle.group_reconcile.specs.Granted.{AreConsistent, held_by, holders_of}
use Rattle.group_reconcile.specs.Holders.{Held, Holders, may_hold, pairs}
use Rattle.group_reconcile.specs.Members.{IsNumberOf, MemberTable, is_number}
use Rattle.group_reconcile.specs.Settling.{IsNext, may_take}
use Rattle.group_reconcile.specs.Tables.{Cells}
use Rattle.group_reconcile.proofs.Granted.{get-holders_of, known}
use Rattle.group_reconcile.proofs.Leaving.{named-known}
use Rattle.group_reconcile.proofs.Pairs.{free-pairs, has-pairs}

-- a cell may be taken by the number where the partition may be held by the member
module _ (ms : MemberTable) (cells : Cells) (consistent : AreConsistent ms cells) (m : Text) (number : Option ℕ) (of_m : IsNumberOf ms m number) where
  pub may_hold-cell : (p : Partition) → may_hold (holders_of ms cells) m p ≡ may_take cells number p
  may_hold-cell p =
      ap (λ o. option_map_or (λ d. eq_by_cmp text_cmp m d.member) o true) (get-holders_of ms cells p)
      ∙ at (finite.get cells p) refl
    where
      at : (o : Option Cell) → finite.get cells p ≡ o
          → option_map_or (λ d. eq_by_cmp text_cmp m d.member) (option_map (held_by ms) o) true ≡ option_map_or (λ c. is_number number c.holder) o true
      at None is = refl
      at (Some c) is = named-known ms m c.holder (known ms cells consistent p c is) ∙ of_m c.holder

-- who holds a partition may hold it
holds_may : (m : Text) (o : Option Held)
    → (option_map_or (λ d. eq_by_cmp text_cmp m d.member) o false || option_map_or (λ d. eq_by_cmp text_cmp m d.member) o true)
    ≡ option_map_or (λ d. eq_by_cmp text_cmp m d.member) o true
holds_may m None = refl
holds_may m (Some d) = either (eq_by_cmp text_cmp m d.member)
  where
    either : (b : Bool) → (b || b) ≡ b
    either true = refl
    either false = refl

-- what the member may read of its target once it moved
has-moved_of : (h : Holders) (m : Text) (target : Partitions) (p : Partition)
    → has (common (held (moved (pairs h) m target) m) target) p ≡ (has target p && may_hold h m p)
has-moved_of h m target p =
    has-common partition_cmp_total (held (moved (pairs h) m target) m) target p
    ∙ ap (λ b. b && has target p) (has-held (moved (pairs h) m target) m p ∙ has-moved (pairs h) m target m p)
    ∙ (λ i. cond (text_ties m i) (has target p && (has-pairs h m p i || free-pairs h m p i)) (has (pairs h) (m, p)) && has target p)
    ∙ ap (λ b. (has target p && b) && has target p) (holds_may m (finite.get h p))
    ∙ once (has target p) (may_hold h m p)
  where
    once : (a b : Bool) → ((a && b) && a) ≡ (a && b)
    once true true = refl
    once true false = refl
    once false b = refl

pub next-shown : (ms : MemberTable) (cells : Cells) → AreConsistent ms cells → (m : Text) (number : Option ℕ) → IsNumberOf ms m number
    → (target next : Partitions) → IsNext cells number target next
    → next ≡ common (held (moved (pairs (holders_of ms cells)) m target) m) target
next-shown ms cells consistent m number of_m target next is_next =
    same_set partition_cmp_total partition_cmp-IsAntisymmetric _ _
    (λ p. is_next p
    ∙ ap (λ b. has target p && b) (sym (may_hold-cell ms cells consistent m number of_m p))
    ∙ sym (has-moved_of (holders_of ms cells) m target p))

-- of nothing, a target has no part
pub common-nothing : (target : Partitions) → nothing ≡ common nothing target
common-nothing target =
    same_set partition_cmp_total partition_cmp-IsAntisymmetric _ _
    (λ p. has-nothing partition_cmp p ∙ sym (has-common partition_cmp_total nothing target p ∙ ap (λ b. b && has target p) (has-nothing partition_cmp p)))

-- the two parts of a meeting may be told in either order
pub common-turned : (s t : Partitions) → common s t ≡ common t s
common-turned s t =
    same_set partition_cmp_total partition_cmp-IsAntisymmetric _ _
    (λ p. has-common partition_cmp_total s t p ∙ swapped (has s p) (has t p) ∙ sym (has-common partition_cmp_total t s p))
  where
    swapped : (a b : Bool) → (a && b) ≡ (b && a)
    swapped true true = refl
    swapped true false = refl
    swapped false true = refl
    swapped false false = refl
