-- The previous epoch is the former one.
use Rattle.std.proofs.Common.{◌≡◌, ◌≢◌, ℕ, ◌==◌, Bool, true, false, cond, max, Option, Some, None, refl, sym, ap, subst, ◌∙◌, true≢false}
use Rattle.std.specs.FinMap as finite
use Rattle.std.proofs.lemmas.Bool.Decides.{Decides-eqb}
use Rattle.group_types.specs.declared.epoch.Epoch.{Epoch}
use Rattle.group_types.specs.declared.epoch.Epoch.TheVariants.{At, Away}
use Rattle.group_types.specs.Text.{Text}
use Rattle.group_types.specs.Partition.{Partitions}
use Rattle.group_types.specs.Group.{Record, Group}
use Rattle.group_types.specs.Join.{record_of_beat, record_of_join, returned_epoch}
use Rattle.group_types.specs.Leave.{away, last_epoch_at}
use Rattle.group_types.specs.Settle.{arrived, asked, settled_record}
use Rattle.group_types.specs.HeartbeatStep.{Answer, Arrival, Draft, sent_after}
use Rattle.group_types.specs.PreviousEpochs.{IsFormerEpoch, PreviousEpochsAreFormer}
use Rattle.group_types.proofs.Lookups.{Tie, ties, differs, tie, not_none, some_is, found_without, get-inserted, get-insert_other}
use Rattle.group_types.proofs.Consistent.{IsConsistent, consistent}
use Rattle.group_types.proofs.Accepted.{Came, unchanged, has_left, went_away, taken_in, came, Drafting, Stages, Whose, its_own, newcomer, takes_over, Made, of_beat, of_rejoin, of_newcomer, of_heir, may}
use Rattle.group_types.proofs.Afterwards.{Last, Renewed, Settled, handed, has_record, other_record, taken_from}

-- ---- of one record

-- a record that is as it was
stays_former : (r : Record) (e : Epoch) → IsFormerEpoch r e r e
stays_former r (At e) = (λ other. absurd (other refl), λ same. refl)
stays_former r Away = refl

gone_former : (r : Record) (e : Epoch) (after : Record) → after.previous_epoch ≡ last_epoch_at e r → IsFormerEpoch r e after Away
gone_former r (At e) after is = is
gone_former r Away after is = is

arrived_former : (s : Record) (e : Epoch) (t : ℕ) → s.epoch ≡ e → IsFormerEpoch s e (arrived s e t) (arrived s e t).epoch
arrived_former s (At e) t is =
    elim (e == t) as (λ b. (e == t) ≡ b → IsFormerEpoch s (At e) (cond b (record s { release_deadline = None }) (record s { previous_epoch = e; epoch = At t; release_deadline = None }))
    (cond b (record s { release_deadline = None }) (record s { previous_epoch = e; epoch = At t; release_deadline = None })).epoch) [
      | true ↦ λ same. subst (IsFormerEpoch s (At e) (record s { release_deadline = None })) (sym is) (stays_former s (At e))
      | false ↦ λ apart. (λ other. refl, λ same. absurd (true≢false (sym ((Decides-eqb e t).1 (sym same)) ∙ apart)))
    ] refl
arrived_former s Away t is = refl

asked_former : (s : Record) (e : Epoch) (o : Option ℕ) (now : ℕ) → s.epoch ≡ e → IsFormerEpoch s e (asked s o now) (asked s o now).epoch
asked_former s e None now is = subst (IsFormerEpoch s e (record s { release_deadline = (asked s None now).release_deadline })) (sym is) (as_before e)
  where
    as_before : (e : Epoch) → IsFormerEpoch s e (asked s None now) e
    as_before (At n) = (λ other. absurd (other refl), λ same. refl)
    as_before Away = refl
asked_former s e (Some deadline) now is = subst (IsFormerEpoch s e s) (sym is) (stays_former s e)

settled_former : (b : Bool) (s : Record) (t now : ℕ) → IsFormerEpoch s s.epoch (settled_record b s t now) (settled_record b s t now).epoch
settled_former true s t now = arrived_former s s.epoch t refl
settled_former false s t now = asked_former s s.epoch s.release_deadline now refl

sent_former : (s : Record) (e : Epoch) (r : Record) (o : Option Partitions) → IsFormerEpoch s e r r.epoch → IsFormerEpoch s e (sent_after r o) (sent_after r o).epoch
sent_former s e r None is = is
sent_former s e r (Some set) is = by e r.epoch is
  where
    by : (e f : Epoch) → IsFormerEpoch s e r f → IsFormerEpoch s e (record r { sent = Some set }) f
    by (At e) (At f) is = is
    by (At e) Away is = is
    by Away f is = is

-- of a record with the same epoch and previous epoch
from_same : (r s : Record) (e f : Epoch) (after : Record) → s.previous_epoch ≡ r.previous_epoch → IsFormerEpoch s e after f → IsFormerEpoch r e after f
from_same r s (At e) (At f) after previous is = (is.0, λ same. is.1 same ∙ previous)
from_same r s (At e) Away after previous is = is
from_same r s Away f after previous is = is ∙ previous

-- of a member that was away, and is at its previous epoch again
from_returned : (r s : Record) (e f : Epoch) (after : Record) → s.previous_epoch ≡ r.previous_epoch
    → IsFormerEpoch s (returned_epoch e r.previous_epoch) after f → IsFormerEpoch r e after f
from_returned r s (At e) f after previous is = from_same r s (At e) f after previous is
from_returned r s Away Away after previous is = is
from_returned r s Away (At f) after previous is =
    elim (f == r.previous_epoch) as (λ b. (f == r.previous_epoch) ≡ b → after.previous_epoch ≡ r.previous_epoch) [
      | true ↦ λ same. is.1 ((Decides-eqb f r.previous_epoch).0 same) ∙ previous
      | false ↦ λ apart. is.0 (λ same. true≢false (sym ((Decides-eqb f r.previous_epoch).1 same) ∙ apart))
    ] refl

-- ---- of all members

module _ (g : Group) (sound : IsConsistent g) (a : Arrival) (answer : Answer) (new : Group) (m : Text) (r after : Record)
    (was : finite.get g.records m ≡ Some r) (is_now : finite.get new.records m ≡ Some after) where
  abbrev IsFormer : Type 0
  IsFormer = IsFormerEpoch r r.epoch after after.epoch

  kept : finite.get new.records m ≡ finite.get g.records m → IsFormer
  kept same =
      subst (λ (x : Record). IsFormerEpoch r r.epoch x x.epoch) (sym (some_is after r (sym is_now ∙ same ∙ was))) (stays_former r r.epoch)

  module _ (d : Draft) (drafting : Drafting g a d) (stages : Stages d a.heartbeat answer new) where
    of_draft : IsFormerEpoch d.after d.after.epoch (Last g a answer new d drafting stages) (Last g a answer new d drafting stages).epoch
    of_draft =
        sent_former d.after d.after.epoch (Settled g a answer new d drafting stages) _
        (settled_former (may (Renewed g a answer new d drafting stages) d a.heartbeat) d.after _ _)

    of_sender : m ≡ d.id → IsFormer
    of_sender same = by drafting.made
      where
        is_last : after ≡ Last g a answer new d drafting stages
        is_last = some_is after (Last g a answer new d drafting stages) (sym is_now ∙ ap (finite.get new.records) same ∙ has_record g a answer new d drafting stages)

        before : (t : Record) → finite.get g.records d.id ≡ Some t → r ≡ t
        before t there = some_is r t (sym was ∙ ap (finite.get g.records) same ∙ there)

        as_drafted : IsFormerEpoch d.after d.after.epoch after after.epoch
        as_drafted = subst (λ (x : Record). IsFormerEpoch d.after d.after.epoch x x.epoch) (sym is_last) of_draft

        by : Made g drafting.base a (max g.clock a.moment) d → IsFormer
        by (of_beat n t epoch there is base_is was_before) =
            subst (λ (t : Record). IsFormerEpoch t t.epoch after after.epoch) (sym (before t there))
            (from_same t (record_of_beat t a.heartbeat a.stamp (max g.clock a.moment)) t.epoch after.epoch after refl
            (subst (λ (s : Record). IsFormerEpoch s s.epoch after after.epoch) is as_drafted))
        by (of_rejoin t epoch there is base_is was_before) =
            subst (λ (t : Record). IsFormerEpoch t t.epoch after after.epoch) (sym (before t there))
            (from_returned t (record_of_join (Some t) a.heartbeat a.stamp (max g.clock a.moment)) t.epoch after.epoch after refl
            (subst (λ (s : Record). IsFormerEpoch s s.epoch after after.epoch) is as_drafted))
        by (of_newcomer epoch absent is base_is was_before) = absurd (not_none r (sym absent ∙ ap (finite.get g.records) (sym same) ∙ was))
        by (of_heir old i epoch absent there asks has is base_is was_before) = absurd (not_none r (sym absent ∙ ap (finite.get g.records) (sym same) ∙ was))

    of_other : m ≢ d.id → Whose g drafting.base a.heartbeat d → IsFormer
    of_other other (its_own t base_is id_is there same_epoch sent same_release) =
        kept (other_record g a answer new d drafting stages m other ∙ ap (λ (x : Group). finite.get x.records m) base_is)
    of_other other (newcomer base_is absent reports full) =
        kept (other_record g a answer new d drafting stages m other ∙ ap (λ (x : Group). finite.get x.records m) base_is)
    of_other other (takes_over old base_is there absent gone instance reports full) = by (tie m old.id)
      where
        by : Tie m old.id → IsFormer
        by (ties same) =
            absurd (not_none after (sym (taken_from g a answer new d drafting stages sound old base_is there absent) ∙ ap (finite.get new.records) (sym same) ∙ is_now))
        by (differs apart _) =
            kept (other_record g a answer new d drafting stages m other ∙ (handed g a answer new d drafting stages sound old base_is there absent).others m other apart)

  by : Came g a answer new → IsFormer
  by (unchanged same fails) = kept (ap (λ (x : Group). finite.get x.records m) same)
  by (has_left t epoch there later answers is) =
      kept (is_now ∙ sym (found_without g.records a.heartbeat.member m after (ap (λ (x : Group). finite.get x.records m) (sym is) ∙ is_now)).0)
  by (went_away t epoch there later answers is) = at (tie m a.heartbeat.member)
    where
      gone : Record
      gone = away t a.stamp (max g.clock a.moment)

      at : Tie m a.heartbeat.member → IsFormer
      at (ties same) =
          let before : r ≡ t = some_is r t (sym was ∙ ap (finite.get g.records) same ∙ there) in
          let is_gone : after ≡ gone =
          some_is after gone (sym is_now ∙ ap (λ (x : Group). finite.get x.records m) is ∙ ap (finite.get (finite.insert g.records a.heartbeat.member gone)) same ∙ get-inserted g.records a.heartbeat.member gone) in
          subst (λ (x : Record). IsFormerEpoch r r.epoch x x.epoch) (sym is_gone)
          (subst (λ (x : Record). IsFormerEpoch x x.epoch gone Away) (sym before) (gone_former t t.epoch gone refl))
      at (differs other apart) =
          kept (ap (λ (x : Group). finite.get x.records m) is ∙ get-insert_other g.records a.heartbeat.member gone m apart)
  by (taken_in d drafting stages takes) = at (tie m d.id)
    where
      at : Tie m d.id → IsFormer
      at (ties same) = of_sender d drafting stages same
      at (differs other _) = of_other d drafting stages other drafting.whose

pub previous_epochs_are_former : PreviousEpochsAreFormer
previous_epochs_are_former g a answer new m r after sound step was is_now =
    let kept = consistent g sound in by g kept a answer new m r after was is_now (came g kept a answer new step)
