-- The order of stamps.
use Rattle.std.proofs.Common.{◌≡◌, ℕ, ◌<◌, true, false, not, is_gt, Ordering, Less, Equal, Greater, refl, sym, ap, ◌∙◌}
use Rattle.std.specs.Ordering.{nat_cmp, ordering_reverse, ordering_then}
use Rattle.std.specs.Cmp.{nat_cmp_is, nat_cmp_total, ranked, tied_itself}
use Rattle.group_types.specs.declared.stamp.Stamp.{Stamp}
use Rattle.group_types.specs.Stamp.{stamp_cmp}
use Rattle.group_types.specs.Checks.{is_late}

-- two numbers in their order
pub data InOrder (j k : ℕ) : Type 0 where
  Below : j < k → InOrder j k
  Same : j ≡ k → InOrder j k
  Above : k < j → InOrder j k

pub in_order : (j k : ℕ) → InOrder j k
in_order j k =
    elim (nat_cmp j k) as (λ o. o ≡ nat_cmp j k → InOrder j k) [
      | Less ↦ λ is. Below (ranked j k Less is)
      | Equal ↦ λ is. Same (ranked j k Equal is)
      | Greater ↦ λ is. Above (ranked j k Greater is)
    ] refl

reversed : (a b : Ordering) → ordering_then (ordering_reverse a) (ordering_reverse b) ≡ ordering_reverse (ordering_then a b)
reversed Less b = refl
reversed Equal b = refl
reversed Greater b = refl

turned : (s t : Stamp) → stamp_cmp s t ≡ ordering_reverse (stamp_cmp t s)
turned s t =
    (λ i. ordering_then (nat_cmp_total.antisymm s.connection t.connection i) (nat_cmp_total.antisymm s.frame t.frame i))
    ∙ reversed (nat_cmp t.connection s.connection) (nat_cmp t.frame s.frame)

pub late_before : (s t : Stamp) → stamp_cmp s t ≡ Less → is_late s t ≡ true
late_before s t is = ap (λ o. not (is_gt o)) is

pub late_behind : (s t : Stamp) → stamp_cmp t s ≡ Less → is_late s t ≡ false
late_behind s t is = ap (λ o. not (is_gt o)) (turned s t ∙ ap ordering_reverse is)

itself : (t : Stamp) → stamp_cmp t t ≡ Equal
itself t = (λ i. ordering_then (tied_itself nat_cmp_total t.connection i) (nat_cmp t.frame t.frame)) ∙ tied_itself nat_cmp_total t.frame

pub not_before_itself : (s t : Stamp) → s ≡ t → stamp_cmp s t ≡ Less → ⊥
not_before_itself s t same is =
    let less : Equal ≡ Less = sym (itself t) ∙ ap (λ (x : Stamp). stamp_cmp x t) (sym same) ∙ is in cc

pub late_itself : (t : Stamp) → is_late t t ≡ true
late_itself t = ap (λ o. not (is_gt o)) (itself t)

-- on one connection the number of the frame decides
pub frames_rise : (s t : Stamp) → s.connection ≡ t.connection → s.frame < t.frame → stamp_cmp s t ≡ Less
frames_rise s t same rises =
    ap (λ n. ordering_then (nat_cmp n t.connection) (nat_cmp s.frame t.frame)) same
    ∙ (λ i. ordering_then (tied_itself nat_cmp_total t.connection i) (nat_cmp s.frame t.frame))
    ∙ sym (nat_cmp_is s.frame t.frame Less rises)
