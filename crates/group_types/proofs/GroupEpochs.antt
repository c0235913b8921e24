-- When a group epoch rises.
use Rattle.std.proofs.Common.{◌≡◌, inl, inr, suc, Bool, true, false, cond, ◌&&◌, nat_le, max, Option, Some, None, refl, sym, ap, subst, ◌∙◌, true≢false}
use Rattle.std.specs.FinMap as finite
use Rattle.group_types.specs.declared.code.Code.TheVariants as codes
use Rattle.group_types.specs.Limits.{GREATEST_EPOCH}
use Rattle.group_types.specs.Text.{Text}
use Rattle.group_types.specs.Topics.{Topics}
use Rattle.group_types.specs.Group.{Record, Group}
use Rattle.group_types.specs.Renewal.{IsChange, IsUnchanged, changed_if, view_for}
use Rattle.group_types.specs.Checks.{Accepted, Refused}
use Rattle.group_types.specs.HeartbeatStep as machine
use Rattle.group_types.specs.HeartbeatStep.{Answer, Arrival, ByVerdict, Draft, TakesIn}
use Rattle.group_types.specs.Fencing.{IsAcceptedAs}
use Rattle.group_types.specs.EpochRises.{AsksForTheSame, EpochsRiseOnChanges, IsRisen, RisesUnless, heir, newcomer, own}
use Rattle.group_types.proofs.Lookups.{some_is}
use Rattle.group_types.proofs.Consistent.{consistent}
use Rattle.group_types.proofs.Checked.{unavailable_is}
use Rattle.group_types.proofs.Shown.{never_negative}
use Rattle.group_types.proofs.Accepted.{Came, unchanged, has_left, went_away, taken_in, came, nobody, Drafting, Stages, Made, of_beat, of_rejoin, of_newcomer, of_heir, refusal_fails}
use Rattle.group_types.proofs.Afterwards.{Last, accepted_is, has_record}
use Rattle.group_types.proofs.FollowedTargets.{epoch_is, view_after}
use Rattle.group_types.proofs.GivenFields.{says}

module _ (g : Group) (a : Arrival) (m : Text) (answer : Answer) (new : Group) (after : Record) (accepted : IsAcceptedAs m answer)
    (is_now : finite.get new.records m ≡ Some after) (d : Draft) (drafting : Drafting g a d) (stages : Stages d a.heartbeat answer new) where
  abbrev View : Topics
  View = view_for a.image d.group.records

  same_member : m ≡ d.id
  same_member = accepted_is g a answer new d drafting stages m accepted

  is_last : after ≡ Last g a answer new d drafting stages
  is_last = some_is after (Last g a answer new d drafting stages) (sym is_now ∙ ap (finite.get new.records) same_member ∙ has_record g a answer new d drafting stages)

  names : after.names ≡ d.after.names
  names = ap (λ (r : Record). r.names) is_last ∙ (says g a answer new d drafting stages).names

  assignor : after.assignor ≡ d.after.assignor
  assignor = ap (λ (r : Record). r.assignor) is_last ∙ (says g a answer new d drafting stages).assignor

  module _ (view : view_for a.image new.records ≡ View) where
    same_of : (before : Record) → IsUnchanged before d.after g.view View → AsksForTheSame g a.image before after new
    same_of before is = record { names = names ∙ sym is.names; assignor = assignor ∙ sym is.assignor; view = view ∙ sym is.view }

    unchanged_of : (before : Record) → AsksForTheSame g a.image before after new → IsUnchanged before d.after g.view View
    unchanged_of before is = record { names = sym is.names ∙ names; assignor = sym is.assignor ∙ assignor; view = sym is.view ∙ view }

  abbrev Rises : Option Record → Type 0
  Rises None = new.epoch ≡ suc g.epoch
  Rises (Some before) = RisesUnless (AsksForTheSame g a.image before after new) g.epoch new.epoch

  rises : (change : Bool) (o : Option Record) → IsChange change o d.after g.view View → machine.Stages (changed_if change d.group View) d a.heartbeat answer new → Rises o
  rises true None is stages = epoch_is g a answer new d drafting (changed_if true d.group View) refl stages ∙ ap suc drafting.ready.epoch
  rises false None never stages = absurd (true≢false (sym never))
  rises true (Some before) is stages =
      inl (
        epoch_is g a answer new d drafting (changed_if true d.group View) refl stages ∙ ap suc drafting.ready.epoch,
        λ same. is (unchanged_of (view_after g a answer new d drafting (changed_if true d.group View) refl stages) before same),
      )
  rises false (Some before) is stages =
      inr (
        epoch_is g a answer new d drafting d.group refl stages ∙ drafting.ready.epoch,
        same_of (view_after g a answer new d drafting d.group refl stages) before is,
      )

  by_owner : Rises d.before → IsRisen g a d.id after new
  by_owner is = by drafting.made
    where
      at : (o : Option Record) → d.before ≡ o → Rises o
      at o was = subst Rises was is

      by : Made g drafting.base a (max g.clock a.moment) d → IsRisen g a d.id after new
      by (of_beat n r epoch there made base_is was) = own r there (at (Some r) was)
      by (of_rejoin r epoch there made base_is was) = own r there (at (Some r) was)
      by (of_newcomer epoch absent made base_is was) = newcomer absent (at None was)
      by (of_heir old i epoch absent there asks has made base_is was) =
          heir old.id i old.kept absent asks (record { kept = old.kept; is_kept = there; same = has }) there (at (Some old.kept) was)

  risen : TakesIn g d a.heartbeat a.image answer new → IsRisen g a d.id after new
  risen takes = by (takes.change && nat_le GREATEST_EPOCH g.epoch) takes.step
    where
      by : (b : Bool) → ByVerdict (cond b (Refused codes.CoordinatorNotAvailable) Accepted) (machine.Stages (changed_if takes.change d.group View) d a.heartbeat) g answer new
          → IsRisen g a d.id after new
      by true is = absurd (nobody answer (refusal_fails answer codes.CoordinatorNotAvailable unavailable_is is.0) m accepted)
      by false stages = by_owner (rises takes.change d.before takes.is_change stages)

pub epochs_rise_on_changes : EpochsRiseOnChanges
epochs_rise_on_changes g a m answer new n after sound step is_epoch accepted is_now = by (came g (consistent g sound) a answer new step)
  where
    by : Came g a answer new → IsRisen g a m after new
    by (unchanged same fails) = absurd (nobody answer fails m accepted)
    by (has_left r leaves there later answers is) = absurd (never_negative a.heartbeat.epoch n 0 is_epoch leaves)
    by (went_away r goes there later answers is) = absurd (never_negative a.heartbeat.epoch n 1 is_epoch goes)
    by (taken_in d drafting stages takes) =
        subst (λ (k : Text). IsRisen g a k after new) (sym (accepted_is g a answer new d drafting stages m accepted))
        (risen g a m answer new after accepted is_now d drafting stages takes)
