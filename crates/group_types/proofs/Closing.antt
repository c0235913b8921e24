-- On which heartbeats a connection is closed.
use Rattle.std.proofs.Common.{◌≡◌, ◌≢◌, ℤ, pos, negsuc, ℕ, zero, suc, false, ◌&&◌, int_le, refl, ap, subst}
use Rattle.group_types.specs.Request.{Heartbeat, Kind, Joins, Beats, is_unknown, is_unsupported, kind_of}
use Rattle.group_types.specs.Group.{Group}
use Rattle.group_types.specs.Checks.{sender_of}
use Rattle.group_types.specs.HeartbeatStep.{Answer, Closes, Arrival, ByVerdict, StepOf, HeartbeatStep}
use Rattle.group_types.proofs.Consistent.{IsConsistent, consistent}
use Rattle.group_types.specs.Fencing.{ClosesOnTheOvertaken, IsInOrder, IsOvertaken}
use Rattle.group_types.proofs.Answering.{closes_when_overtaken}
use Rattle.group_types.proofs.Checked.{is_overtaken_so, overtaken_is}

-- an assignor is looked at in joins and beats alone
supported_below : (q : Heartbeat) (z : ℤ) → q.epoch ≡ z → ((n : ℕ) → kind_of z ≡ Beats n → ⊥) → kind_of z ≢ Joins → is_unsupported q ≡ false
supported_below q (pos zero) is beats joins = absurd (joins refl)
supported_below q (pos (suc n)) is beats joins = absurd (beats (suc n) refl)
supported_below q (negsuc n) is beats joins = ap (λ z. int_le (pos 0) z && is_unknown q.assignor) is

module _ (g : Group) (a : Arrival) (answer : Answer) (new : Group) (sound : IsConsistent g) (step : HeartbeatStep g a answer new) where
  abbrev TheKind : Kind
  TheKind = kind_of a.heartbeat.epoch

  was_overtaken : answer ≡ Closes → IsInOrder g a.heartbeat × IsOvertaken g a
  was_overtaken closes =
      let late = overtaken_is g sound a.heartbeat a.stamp TheKind (supported_below a.heartbeat a.heartbeat.epoch refl) (closes_when_overtaken g a answer new step closes).0 in (
        record { valid = late.0; supported = late.1; of_instance = late.2 },
        record { last = late.3.0; is_last = late.3.1; late = late.3.2 },
      )

  is_closed_on : IsInOrder g a.heartbeat → IsOvertaken g a → answer ≡ Closes
  is_closed_on in_order overtaken =
      let verdict = is_overtaken_so g sound a.heartbeat a.stamp TheKind in_order.valid in_order.supported in_order.of_instance overtaken.last overtaken.is_last overtaken.late in
      (subst (λ v. ByVerdict v (StepOf TheKind (sender_of g.records a.heartbeat) g a) g answer new) verdict step).0

pub closes_on_the_overtaken : ClosesOnTheOvertaken
closes_on_the_overtaken g a answer new sound step = (
  (was_overtaken g a answer new (consistent g sound) step, λ is. is_closed_on g a answer new (consistent g sound) step is.0 is.1),
  λ closes. (closes_when_overtaken g a answer new step closes).1,
)
