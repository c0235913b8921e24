-- A draft is taken in, and whose draft it is.
use Rattle.std.proofs.Common.{arith, ◌≡◌, ◌≤ℤ◌, ℕ, zero, suc, ℤ, pos, negsuc, max, [], ◌∷◌, Option, Some, None, is_some, false, refl, sym, ap, subst, ◌∙◌, true≢false}
use Rattle.std.proofs.lemmas.Int.{ints}
use Rattle.std.specs.Option.{IfSome}
use Rattle.std.specs.FinMap as finite
use Rattle.group_types.specs.declared.stamp.Stamp.{Stamp}
use Rattle.group_types.specs.Topics.{Topics}
use Rattle.group_types.specs.Request.{Heartbeat, Beats, Joins, kind_of}
use Rattle.group_types.specs.Group.{Group, Record}
use Rattle.group_types.specs.Join.{IsNamed, Name, record_of_beat, record_of_join}
use Rattle.group_types.specs.Renewal.{IsChange, Renews, changed_if, view_for}
use Rattle.group_types.specs.Checks.{Accepted, Member, Sender, is_unreleased, record_under, sender_of, verdict_on}
use Rattle.group_types.specs.HeartbeatStep.{Answer, Arrival, BeatsWith, ByVerdict, StepOf, with_record_at}
use Rattle.group_types.specs.Sound.{IsSound}
use Rattle.group_types.specs.Text.{Text}
use Rattle.group_types.specs.Members.{HasInstance}
use Rattle.group_types.proofs.Lookups.{Tie, ties, differs, tie, not_none, some_is}
use Rattle.group_types.proofs.Senders.{named_fresh, named_own, no_other, other_is, own_is, own_none}
use Rattle.group_epochs.specs.Records.{IsInstanceFreeFor}
use Rattle.group_core.specs.declared.state.State.{State}
use Rattle.group_core.specs.declared.draft.Draft.{Draft as Drafted}
use Rattle.group_core.specs.declared.change.Renewal.{Renewal}
use Rattle.group_reconcile.specs.Holders.{pairs}
use Rattle.group_core.specs.GroupView.{group_of}
use Rattle.group_epochs.specs.Drafts.{CanStore, Drafted as DraftedAs, IsHeirOf, IsIdOf, drafted, drafted_in, placed_heir}
use Rattle.group_epochs.specs.declared.draft.Place.{Place}
use Rattle.group_epochs.specs.declared.draft.Place.TheVariants.{New, Kept, Handed}
use Rattle.group_epochs.specs.Records.{RecordsState}
use Rattle.group_epochs.proofs.Senders.{record_under-get}
use Rattle.group_core.specs.CodeOrder.{LateDraft, LateStages, TakesInLate, late_draft, late_draft_of_join}
use Rattle.group_core.specs.Stages.{AreOfView, HasNothing, IsDraft, IsRenewalOf, draft_in, heir_id, heir_of, records_with, renewed_by, target_then}
use Rattle.group_core.proofs.Idle.{has_nothing}
use Rattle.group_core.proofs.Renewing.{owner_is_member, renewed_of_view, renews}
use Rattle.group_core.proofs.Renamings.{renaming_may_come_last, same_for_one}
use Rattle.group_core.proofs.Verdicts.{beats_accepted, joins_accepted}

module _ (s : State) (d : Drafted) (now : ℕ) (image : Topics) (r : Renewal) (is : IsRenewalOf s d image r) where
  pub owned_of_view : IsSound (group_of s) → AreOfView (target_then s r).owners r.view
  owned_of_view sound = renewed_of_view s d now r sound is.change is.is_change is.epoch is.target

  -- an heir owns nothing and holds nothing
  pub heir_has_nothing : IsSound (group_of s) → IfSome (heir_id d) (IsHeirOf s.records.records d.member.id) → IfSome (heir_id d) (HasNothing (target_then s r).owners (pairs s.grants))
  heir_has_nothing sound ok = by (heir_id d) ok
    where
      by : (heir : Option Text) → IfSome heir (IsHeirOf s.records.records d.member.id) → IfSome heir (HasNothing (target_then s r).owners (pairs s.grants))
      by None tt = tt
      by (Some h) ok = has_nothing (group_of s) sound d.member.id d.member.record h ok (target_then s r).owners (owner_is_member s d now r sound is.target)

  -- a draft that is renewed, settled and replied to is taken in
  pub takes_in : (q : Heartbeat) (answer : Answer) (new : Group) → ((changed : Group) → Renews changed (renewed_by s d now r) → LateStages changed (draft_in (group_of s) d now) q answer new)
      → TakesInLate (group_of s) (draft_in (group_of s) d now) q image answer new
  takes_in q answer new stages =
      let D : LateDraft = draft_in (group_of s) d now in
      let V : Topics = view_for image (records_with s d) in
      let goes : LateStages (changed_if is.change D.group V) D q answer new =
      stages (changed_if is.change D.group V)
      (subst (λ v. Renews (changed_if is.change D.group v) (renewed_by s d now r)) is.view (renews s d now r is.change is.is_change is.epoch is.target)) in
      record {
        change = is.change;
        is_change = subst (λ v. IsChange is.change (finite.get s.records.records d.member.id) d.member.record s.view v) is.view is.is_change;
        step = subst (λ v. ByVerdict v (LateStages (changed_if is.change D.group V) D q) (group_of s) answer new) (sym is.rises) goes;
      }

-- ---- whose draft it is

-- who takes over a record for which there is room may do so
pub heir_in_room : (s : RecordsState) (m : Text) (r : Record) (p : Place) → CanStore s m r p → IfSome (placed_heir p) (IsHeirOf s.records m)
heir_in_room s m r (New n) can = tt
heir_in_room s m r (Kept names) can = tt
heir_in_room s m r (Handed n) can = can.0

-- the draft of a record under an id, in a group
abbrev placed : Group → ℕ → DraftedAs → LateDraft
placed g now x = late_draft g now x.id (finite.get g.records x.id) x.kept (heir_of (finite.get g.records x.id) x.heir)

-- a member that has a record keeps its id, and no id is made
named_is : (g : Group) (m : Text) (r : Record) (name : Name) → record_under g.records m ≡ Some r → IsNamed g m (Some name) → name ≡ record { id = m; next_serial = g.serial }
named_is g [] r name own named = absurd (not_none r own)
named_is g (c ∷ m) r name own named = some_is name (record { id = c ∷ m; next_serial = g.serial }) named

module _ (g : Group) (sound : IsSound g) (q : Heartbeat) (stamp : Stamp) (now : ℕ) (name : Name) (named : IsNamed g q.member (Some name)) where
  abbrev The : Sender
  The = sender_of g.records q

  abbrev Named : Group
  Named = record g { serial = name.next_serial }

  -- the id is the sender's
  pub id_of_sender : IsIdOf g.records q.member name.id
  id_of_sender = by The.own refl
    where
      by : (own : Option Record) → The.own ≡ own → IsIdOf g.records q.member name.id
      by None none =
          let fresh = named_fresh g q.member name named none in
          let absent = sym (record_under-get g.records q.member sound.named) ∙ none in
          record { own = λ there. absurd (true≢false (sym there ∙ ap is_some absent)); new = λ _. fresh.0; some = fresh.1 }
      by (Some r) own =
          let same = named_own g q.member name r named own in
          let found = own_is g.records q.member r own in
          record {
            own = λ _. same;
            new = λ none. absurd (not_none r (sym none ∙ found));
            some = λ empty. not_none r (sym sound.named ∙ ap (finite.get g.records) (sym (sym same ∙ empty)) ∙ found);
          }

  -- a join's draft
  placed_join : (own : Option Record) (other : Option Member) → The.own ≡ own → The.other ≡ other
      → placed Named now (drafted Joins own other name.id q stamp now) ≡ late_draft_of_join Named now name.id own other q stamp
  placed_join (Some r) other own _ =
      let found : finite.get g.records name.id ≡ Some r = ap (finite.get g.records) (named_own g q.member name r named own) ∙ own_is g.records q.member r own in
      λ i. late_draft Named now name.id (found i) (record_of_join (Some r) q stamp now) (heir_of (found i) None)
  placed_join None None none _ =
      let fresh = (named_fresh g q.member name named none).0 in
      λ i. late_draft Named now name.id (fresh i) (record_of_join None q stamp now) (heir_of (fresh i) None)
  placed_join None (Some old) none other =
      let there = (other_is g.records q.member q.instance old other).0 in
      λ i. late_draft Named now old.id (there i) (record_of_join (Some old.kept) q stamp now) (heir_of (there i) (Some name.id))

  -- a beat's draft
  placed_beat : (n : ℕ) (r : Record) (other : Option Member) → The.own ≡ Some r → placed Named now (drafted (Beats n) (Some r) other name.id q stamp now) ≡ late_draft g now q.member (Some r) (record_of_beat r q stamp now) None
  placed_beat n r other own =
      let found = own_is g.records q.member r own in
      ap (λ (x : Name). placed (record g { serial = x.next_serial }) now (record { id = x.id; kept = record_of_beat r q stamp now; heir = None })) (named_is g q.member r name own named)
      ∙ (λ i. late_draft g now q.member (found i) (record_of_beat r q stamp now) (heir_of (found i) None))

module _ (g : Group) (sound : IsSound g) (a : Arrival) (now : ℕ) (clocked : now ≡ max g.clock a.moment) (d : Drafted) (is : IsDraft g a.heartbeat a.stamp now d) where
  abbrev Q : Heartbeat
  Q = a.heartbeat

  abbrev Of : Sender
  Of = sender_of g.records Q

  abbrev IsBy : ℤ → Type 0
  IsBy epoch = drafted_in d.member ≡ drafted (kind_of epoch) Of.own Of.other is.name.id Q a.stamp now

  here : (epoch : ℤ) → IsBy epoch → draft_in g d now ≡ placed (record g { serial = is.name.next_serial }) now (drafted (kind_of epoch) Of.own Of.other is.name.id Q a.stamp now)
  here epoch by = λ i. placed (record g { serial = sym is.serial i }) now (by i)

  joins : IsBy (pos 0) → draft_in g d now ≡ late_draft_of_join (record g { serial = is.name.next_serial }) now is.name.id Of.own Of.other Q a.stamp
  joins by = here (pos 0) by ∙ placed_join g sound Q a.stamp now is.name is.is_named Of.own Of.other refl refl

  beats : (n : ℕ) → IsBy (pos (suc n)) → (r : Record) → Of.own ≡ Some r → draft_in g d now ≡ late_draft g now Q.member (Some r) (record_of_beat r Q a.stamp now) None
  beats n by r own =
      here (pos (suc n)) by
      ∙ ap (λ (o : Option Record). placed (record g { serial = is.name.next_serial }) now (drafted (Beats (suc n)) o Of.other is.name.id Q a.stamp now)) own
      ∙ placed_beat g sound Q a.stamp now is.name is.is_named (suc n) r Of.other own

  -- what comes of a draft that is taken in is the step of its kind
  entered_at : (epoch : ℤ) → Q.epoch ≡ epoch → pos 0 ≤ℤ epoch → IsBy epoch → verdict_on (kind_of epoch) Of g Q a.stamp ≡ Accepted
      → (answer : Answer) (new : Group) → TakesInLate g (draft_in g d now) Q a.image answer new → StepOf (kind_of epoch) Of g a answer new
  entered_at (pos zero) at above by accepted answer new taken =
      let drafted_is = joins by ∙ ap (λ t. late_draft_of_join (record g { serial = is.name.next_serial }) t is.name.id Of.own Of.other Q a.stamp) clocked in
      let late = subst (λ (x : LateDraft). TakesInLate g x Q a.image answer new) drafted_is taken in
      record { name = Some is.name; is_named = is.is_named; joins = (renaming_may_come_last g a is.name answer new sound is.is_named).1 late }
  entered_at (pos (suc n)) at above by accepted answer new taken =
      let own = beats_accepted (suc n) Of.own Of.other g Q a.stamp accepted in
      let drafted_is = beats n by own.0 own.1 ∙ ap (λ t. late_draft g t Q.member (Some own.0) (record_of_beat own.0 Q a.stamp t) None) clocked in
      let late = subst (λ (x : LateDraft). TakesInLate g x Q a.image answer new) drafted_is taken in
      let at : ℕ = max g.clock a.moment in
      let after : Record = record_of_beat own.0 Q a.stamp at in
      subst (λ (o : Option Record). BeatsWith o g a answer new) (sym own.1)
      ((same_for_one g (with_record_at g at Q.member after) Q.member (Some own.0) after Q a.image answer new).1 late)
  entered_at (negsuc n) at above by accepted answer new taken = absurd (omega (arith, ints, above))

  pub entered : pos 0 ≤ℤ Q.epoch → verdict_on (kind_of Q.epoch) Of g Q a.stamp ≡ Accepted → (answer : Answer) (new : Group) → TakesInLate g (draft_in g d now) Q a.image answer new
      → StepOf (kind_of Q.epoch) Of g a answer new
  entered above accepted answer new taken = entered_at Q.epoch refl above is.drafted accepted answer new taken

  -- the instance is no other member's
  free_at : (epoch : ℤ) → pos 0 ≤ℤ epoch → IsBy epoch → verdict_on (kind_of epoch) Of g Q a.stamp ≡ Accepted → IsInstanceFreeFor g.records d.member.id d.member.record
  free_at (pos zero) above by accepted =
      joins_free Of.own Of.other refl refl by (joins_accepted Of g Q a.stamp accepted).0
    where
      joins_free : (own : Option Record) (other : Option Member) → Of.own ≡ own → Of.other ≡ other → drafted_in d.member ≡ drafted Joins own other is.name.id Q a.stamp now
          → is_unreleased own other ≡ false → IsInstanceFreeFor g.records d.member.id d.member.record
      joins_free (Some r) None is_own alone made released = λ n i of has. among n i of has (tie n Q.member)
        where
          among : (n i : Text) → d.member.record.instance ≡ Some i → HasInstance g.records n i → Tie n Q.member → n ≡ d.member.id
          among n i of has (ties same) = same ∙ sym (ap (λ (x : DraftedAs). x.id) made ∙ named_own g Q.member is.name r is.is_named is_own)
          among n i of has (differs other _) =
              absurd (no_other g.records Q.member Q.instance alone n has.kept i other has.is_kept (sym (ap (λ (x : DraftedAs). x.kept.instance) made) ∙ of) has.same)
      joins_free (Some r) (Some old) is_own is_other made unreleased = absurd (true≢false unreleased)
      joins_free None None none alone made released = λ n i of has. among n i of has (tie n Q.member)
        where
          among : (n i : Text) → d.member.record.instance ≡ Some i → HasInstance g.records n i → Tie n Q.member → n ≡ d.member.id
          among n i of has (ties same) = absurd (not_none has.kept (sym (own_none g.records Q.member sound.named none) ∙ ap (finite.get g.records) (sym same) ∙ has.is_kept))
          among n i of has (differs other _) =
              absurd (no_other g.records Q.member Q.instance alone n has.kept i other has.is_kept (sym (ap (λ (x : DraftedAs). x.kept.instance) made) ∙ of) has.same)
      joins_free None (Some old) none is_other made released = λ n i of has.
          let there = other_is g.records Q.member Q.instance old is_other in
          sound.instances n old.id has.kept old.kept i has.is_kept there.0 has.same (there.1 ∙ sym (ap (λ (x : DraftedAs). x.kept.instance) made) ∙ of)
          ∙ sym (ap (λ (x : DraftedAs). x.id) made)
  free_at (pos (suc n)) above by accepted =
      let own = beats_accepted (suc n) Of.own Of.other g Q a.stamp accepted in
      let made = by ∙ ap (λ (o : Option Record). drafted (Beats (suc n)) o Of.other is.name.id Q a.stamp now) own.1 in
      let same : d.member.id ≡ Q.member = ap (λ (x : DraftedAs). x.id) made ∙ named_own g Q.member is.name own.0 is.is_named own.1 in
      let found : finite.get g.records d.member.id ≡ Some own.0 = ap (finite.get g.records) same ∙ own_is g.records Q.member own.0 own.1 in
      λ m i of has. sound.instances m d.member.id has.kept own.0 i has.is_kept found has.same (sym (ap (λ (x : DraftedAs). x.kept.instance) made) ∙ of)
  free_at (negsuc n) above by accepted = absurd (omega (arith, ints, above))

  pub free : pos 0 ≤ℤ Q.epoch → verdict_on (kind_of Q.epoch) Of g Q a.stamp ≡ Accepted → IsInstanceFreeFor g.records d.member.id d.member.record
  free above accepted = free_at Q.epoch above is.drafted accepted
