-- What a static member asks for that comes back under another id.
use Rattle.std.proofs.Common.{◌≡◌, ◌≢◌, inl, inr, suc, Bool, true, false, cond, ◌&&◌, max, nat_le, Some, None, refl, sym, ap, subst, ◌∙◌}
use Rattle.std.specs.Option.{option_and_then, option_or}
use Rattle.std.specs.FinMap as finite
use Rattle.group_types.specs.declared.code.Code.TheVariants as codes
use Rattle.group_types.specs.Limits.{GREATEST_EPOCH}
use Rattle.group_types.specs.Text.{Text}
use Rattle.group_types.specs.Topics.{Topics}
use Rattle.group_types.specs.AssignorName.{assignor_named}
use Rattle.group_types.specs.Request.{GOES_AWAY_AT, LEAVES_AT}
use Rattle.group_types.specs.Group.{Record, Group}
use Rattle.group_types.specs.Join.{record_of_join}
use Rattle.group_types.specs.Renewal.{IsChange, IsUnchanged, changed_if, view_for}
use Rattle.group_types.specs.Checks.{Accepted, Refused}
use Rattle.group_types.specs.EpochRises.{AsksForTheSame, RisesUnless}
use Rattle.group_types.specs.HeartbeatStep as machine
use Rattle.group_types.specs.HeartbeatStep.{Answer, Arrival, ByVerdict, Draft, Replied, Reply, TakesIn, HeartbeatStep}
use Rattle.group_types.specs.TakeOvers.{TakesOver}
use Rattle.group_types.proofs.Consistent.{IsConsistent, consistent}
use Rattle.group_types.proofs.Lookups.{Tie, ties, differs, tie, not_none, some_is}
use Rattle.group_types.proofs.Checked.{unavailable_is}
use Rattle.group_types.proofs.Accepted.{Came, unchanged, has_left, went_away, taken_in, came, nobody, refusal_fails, Drafting, Stages, Made, of_beat, of_rejoin, of_newcomer, of_heir}
use Rattle.group_types.proofs.Afterwards.{Last, accepted_is, handed, has_record, other_record, same_id}
use Rattle.group_types.proofs.GivenFields.{says}
use Rattle.group_types.proofs.FollowedTargets.{epoch_is, view_after}
use Rattle.machine_laws.specs.TakeOvers.{AsksAsBefore, HeirsAskAsBefore}

module _ (g : Group) (a : Arrival) (answer : Answer) (new : Group) (old heir : Text) (r last : Record) (takes_over : TakesOver g answer new old heir r)
    (is_now : finite.get new.records heir ≡ Some last) where
  -- ---- with the record of the draft before

  module _ (d : Draft) (drafting : Drafting g a d) (stages : Stages d a.heartbeat answer new) (before : Record) (was : d.before ≡ Some before)
      (made : d.after ≡ record_of_join (Some before) a.heartbeat a.stamp (max g.clock a.moment)) where
    abbrev View : Topics
    View = view_for a.image d.group.records

    is_last : last ≡ Last g a answer new d drafting stages
    is_last =
        some_is last (Last g a answer new d drafting stages)
        (sym is_now ∙ ap (finite.get new.records) (accepted_is g a answer new d drafting stages heir takes_over.accepted) ∙ has_record g a answer new d drafting stages)

    names : last.names ≡ d.after.names
    names = ap (λ (x : Record). x.names) is_last ∙ (says g a answer new d drafting stages).names

    assignor : last.assignor ≡ d.after.assignor
    assignor = ap (λ (x : Record). x.assignor) is_last ∙ (says g a answer new d drafting stages).assignor

    kept_rack : a.heartbeat.rack ≡ None → last.rack ≡ before.rack
    kept_rack none =
        ap (λ (x : Record). x.rack) is_last ∙ (says g a answer new d drafting stages).rack ∙ ap (λ (x : Record). x.rack) made
        ∙ ap (λ o. option_or o before.rack) none

    kept_assignor : a.heartbeat.assignor ≡ None → last.assignor ≡ before.assignor
    kept_assignor none =
        assignor ∙ ap (λ (x : Record). x.assignor) made ∙ ap (λ o. option_or (option_and_then assignor_named o) before.assignor) none

    module _ (view : view_for a.image new.records ≡ View) where
      same_of : IsUnchanged before d.after g.view View → AsksForTheSame g a.image before last new
      same_of is = record { names = names ∙ sym is.names; assignor = assignor ∙ sym is.assignor; view = view ∙ sym is.view }

      unchanged_of : AsksForTheSame g a.image before last new → IsUnchanged before d.after g.view View
      unchanged_of is = record { names = sym is.names ∙ names; assignor = sym is.assignor ∙ assignor; view = sym is.view ∙ view }

    abbrev Rises : Type 0
    Rises = RisesUnless (AsksForTheSame g a.image before last new) g.epoch new.epoch

    rises : (change : Bool) → IsChange change (Some before) d.after g.view View → machine.Stages (changed_if change d.group View) d a.heartbeat answer new → Rises
    rises true is steps =
        inl (
          epoch_is g a answer new d drafting (changed_if true d.group View) refl steps ∙ ap suc drafting.ready.epoch,
          λ same. is (unchanged_of (view_after g a answer new d drafting (changed_if true d.group View) refl steps) same),
        )
    rises false is steps =
        inr (
          epoch_is g a answer new d drafting d.group refl steps ∙ drafting.ready.epoch,
          same_of (view_after g a answer new d drafting d.group refl steps) is,
        )

    risen : TakesIn g d a.heartbeat a.image answer new → Rises
    risen takes = by (takes.change && nat_le GREATEST_EPOCH g.epoch) takes.step
      where
        by : (b : Bool) → ByVerdict (cond b (Refused codes.CoordinatorNotAvailable) Accepted) (machine.Stages (changed_if takes.change d.group View) d a.heartbeat) g answer new → Rises
        by true is = absurd (nobody answer (refusal_fails answer codes.CoordinatorNotAvailable unavailable_is is.0) heir takes_over.accepted)
        by false steps = rises takes.change (subst (λ o. IsChange takes.change o d.after g.view View) was takes.is_change) steps

    asks : TakesIn g d a.heartbeat a.image answer new → before ≡ r → AsksAsBefore g a r last new
    asks takes same =
        subst (λ (x : Record). AsksAsBefore g a x last new) same (record { rack = kept_rack; assignor = kept_assignor; epoch = risen takes })

  -- ---- which record it was

  -- an heir had none under its own id
  was_member : (reply : Reply) → answer ≡ Replied reply → reply.member ≡ Some a.heartbeat.member → (t : Record) → finite.get g.records a.heartbeat.member ≡ Some t → ⊥
  was_member reply answers named t there =
      not_none t (sym takes_over.absent ∙ ap (finite.get g.records) (same_id heir a.heartbeat.member answer reply answers named takes_over.accepted) ∙ there)

  by : IsConsistent g → Came g a answer new → AsksAsBefore g a r last new
  by sound (unchanged same fails) = absurd (nobody answer fails heir takes_over.accepted)
  by sound (has_left t epoch there later answers is) = absurd (was_member (machine.farewell a.heartbeat.member LEAVES_AT) answers refl t there)
  by sound (went_away t epoch there later answers is) = absurd (was_member (machine.farewell a.heartbeat.member GOES_AWAY_AT) answers refl t there)
  by sound (taken_in d drafting stages takes) = made drafting.made
    where
      id : heir ≡ d.id
      id = accepted_is g a answer new d drafting stages heir takes_over.accepted

      absent : finite.get g.records d.id ≡ None
      absent = ap (finite.get g.records) (sym id) ∙ takes_over.absent

      other : old ≢ d.id
      other same = takes_over.not_left (id ∙ sym same)

      stays : finite.get drafting.base.records old ≡ finite.get g.records old → ⊥
      stays is = not_none r (sym takes_over.gone ∙ other_record g a answer new d drafting stages old other ∙ is ∙ takes_over.was)

      made : Made g drafting.base a (max g.clock a.moment) d → AsksAsBefore g a r last new
      made (of_beat n s epoch there is base_is was) = absurd (not_none s (sym absent ∙ there))
      made (of_rejoin s epoch there is base_is was) = absurd (not_none s (sym absent ∙ there))
      made (of_newcomer epoch none is base_is was) = absurd (stays (ap (λ (x : Group). finite.get x.records old) base_is))
      made (of_heir m i epoch none there asks_i has is base_is was) = of_old (tie old m.id)
        where
          of_old : Tie old m.id → AsksAsBefore g a r last new
          of_old (differs apart _) = absurd (stays ((handed g a answer new d drafting stages sound m base_is there none).others old other apart))
          of_old (ties same) = asks d drafting stages m.kept was is takes (some_is m.kept r (sym there ∙ ap (finite.get g.records) (sym same) ∙ takes_over.was))

pub heirs_ask_as_before : HeirsAskAsBefore
heirs_ask_as_before g a answer new old heir r last sound step takes_over is_now =
    by g a answer new old heir r last takes_over is_now (consistent g sound) (came g (consistent g sound) a answer new step)
