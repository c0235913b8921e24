-- Which heartbeats are fenced.
use Rattle.std.proofs.Common.{◌≡◌, ◌≢◌, ◌↔◌, ℕ, suc, ◌==◌, Bool, true, false, cond, not, ◌&&◌, ◌||◌, is_none, nat_le, List, Option, Some, None, refl, sym, ap, subst, ◌∙◌, true≢false}
use Rattle.std.specs.Ordering.{is_gt}
use Rattle.std.proofs.lemmas.Bool.Decides.{Decides-eqb}
use Rattle.std.proofs.lemmas.List.Sums.{AllPass-from_list_all, list_all-from_AllPass}
use Rattle.group_types.specs.declared.code.Code.TheVariants as codes
use Rattle.group_types.specs.declared.epoch.Epoch.{Epoch}
use Rattle.group_types.specs.declared.epoch.Epoch.TheVariants.{At, Away}
use Rattle.group_types.specs.declared.partition.Partition.{Partition}
use Rattle.group_types.specs.Limits.{GREATEST_EPOCH}
use Rattle.group_types.specs.Sets.{has}
use Rattle.group_types.specs.Request.{Heartbeat, Beats, kind_of}
use Rattle.group_types.specs.Group.{Record, Group}
use Rattle.group_types.specs.Renewal.{changed_if, view_for}
use Rattle.group_types.specs.Checks.{Verdict, Accepted, Refused, Overtaken, Sender, are_granted, is_current, is_fenced, is_overtaken, sender_of, verdict_on}
use Rattle.group_types.specs.HeartbeatStep.{Answer, Replied, Arrival, BeatsWith, ByVerdict, Reply, Stages, StepBy, StepOf, TakesIn, refusal, verdict_on_change}
use Rattle.group_types.specs.Fences.{FencesTheLate, IsAtEpoch, ReportsGranted, present, previous}
use Rattle.group_types.proofs.Consistent.{consistent}
use Rattle.group_types.proofs.Checked.{own_so}

or_right : (a b : Bool) → b ≡ true → (a || b) ≡ true
or_right true b is = refl
or_right false b is = is

or_left : (a b : Bool) → a ≡ true → (a || b) ≡ true
or_left true b is = refl
or_left false b never = absurd (true≢false (sym never))

both : (a b : Bool) → a ≡ true → b ≡ true → (a && b) ≡ true
both true b is so = so
both false b never so = absurd (true≢false (sym never))

module _ (g : Group) (q : Heartbeat) (r : Record) (n : ℕ) where
  abbrev Granted : Bool
  Granted = are_granted g.grants q.member q.owned

  reports : (o : Option (List Partition)) → q.owned ≡ o → are_granted g.grants q.member o ≡ true → ReportsGranted g q
  reports None is never = absurd (true≢false (sym never))
  reports (Some owned) is all =
      record { owned = owned; is_owned = is; granted = AllPass-from_list_all (λ p. has g.grants (q.member, p)) owned all }

  at_epoch : (e : Epoch) → r.epoch ≡ e → is_current n e r.previous_epoch Granted ≡ true → IsAtEpoch g q r n
  at_epoch Away is never = absurd (true≢false (sym never))
  at_epoch (At e) is so = by (e == n) refl so
    where
      before : (b : Bool) → (r.previous_epoch == n) ≡ b → (b && Granted) ≡ true → IsAtEpoch g q r n
      before true same granted = previous e is ((Decides-eqb r.previous_epoch n).0 same) (reports q.owned refl granted)
      before false same never = absurd (true≢false (sym never))

      by : (b : Bool) → (e == n) ≡ b → (b || (r.previous_epoch == n && Granted)) ≡ true → IsAtEpoch g q r n
      by true same _ = present (is ∙ ap At ((Decides-eqb e n).0 same))
      by false same so = before (r.previous_epoch == n) refl so

  granted : ReportsGranted g q → Granted ≡ true
  granted it =
      ap (are_granted g.grants q.member) it.is_owned ∙ list_all-from_AllPass (λ p. has g.grants (q.member, p)) it.owned it.granted

  is_current_so : IsAtEpoch g q r n → is_current n r.epoch r.previous_epoch Granted ≡ true
  is_current_so (present is) =
      ap (λ e. is_current n e r.previous_epoch Granted) is ∙ or_left (n == n) (r.previous_epoch == n && Granted) ((Decides-eqb n n).1 refl)
  is_current_so (previous e is before it) =
      ap (λ e. is_current n e r.previous_epoch Granted) is
      ∙ or_right (e == n) (r.previous_epoch == n && Granted) (both (r.previous_epoch == n) Granted ((Decides-eqb r.previous_epoch n).1 before) (granted it))

-- ---- the answer

reply_is : (x y : Reply) → Replied x ≡ Replied y → x ≡ y
reply_is x y is = cc

not_fenced_by : (x : Reply) → x.code ≢ codes.FencedMemberEpoch → Replied x ≢ Replied (refusal codes.FencedMemberEpoch)
not_fenced_by x other is = other (ap (λ (r : Reply). r.code) (reply_is x (refusal codes.FencedMemberEpoch) is))

no_error_is_other : codes.NoError ≢ codes.FencedMemberEpoch
no_error_is_other is = cc

unavailable_is_other : codes.CoordinatorNotAvailable ≢ codes.FencedMemberEpoch
unavailable_is_other is = cc

module _ (g : Group) (a : Arrival) (answer : Answer) (new : Group) where
  abbrev IsFenced : Type 0
  IsFenced = answer ≡ Replied (refusal codes.FencedMemberEpoch)

  taken_in : (d : _) → TakesIn g d a.heartbeat a.image answer new → ¬ IsFenced
  taken_in d takes = by (verdict_on_change takes.change g.epoch) refl takes.step
    where
      by : (v : Verdict) → verdict_on_change takes.change g.epoch ≡ v
          → ByVerdict v (Stages (changed_if takes.change d.group (view_for a.image d.group.records)) d a.heartbeat) g answer new → ¬ IsFenced
      by Accepted _ stages is = not_fenced_by _ no_error_is_other (sym stages.answers ∙ is)
      by (Refused code) so refused is = at (takes.change && nat_le GREATEST_EPOCH g.epoch) so
        where
          at : (b : Bool) → cond b (Refused codes.CoordinatorNotAvailable) Accepted ≡ Refused code → ⊥
          at true same =
              let is_code : codes.CoordinatorNotAvailable ≡ code = cc in
              not_fenced_by (refusal code) (λ fenced. unavailable_is_other (is_code ∙ fenced)) (sym refused.0 ∙ is)
          at false never = cc
      by Overtaken _ closes is = cc

  accepted : (own : Option Record) → BeatsWith own g a answer new → ¬ IsFenced
  accepted None is = absurd is
  accepted (Some r) is = taken_in _ is

pub fences_the_late : FencesTheLate
fences_the_late g a answer new n r sound step epoch valid supported there later = by (is_current (suc n) r.epoch r.previous_epoch (Granted g q r (suc n))) refl
  where
    q : Heartbeat
    q = a.heartbeat

    TheSender : Sender
    TheSender = sender_of g.records q

    own : TheSender.own ≡ Some r
    own = own_so g.records q.member (consistent g sound).named ∙ there

    Fenced : Bool → Verdict
    Fenced b = cond (not b) (Refused codes.FencedMemberEpoch) Accepted

    verdict : verdict_on (Beats (suc n)) TheSender g q a.stamp ≡ Fenced (is_current (suc n) r.epoch r.previous_epoch (Granted g q r (suc n)))
    verdict =
        λ i. cond (valid i) (Refused codes.InvalidRequest) (cond (supported i) (Refused codes.UnsupportedAssignor) (cond (is_none (own i)) (Refused codes.UnknownMemberId) (cond (in_time i) Overtaken (cond (is_fenced (suc n) (own i) (are_granted g.grants q.member q.owned)) (Refused codes.FencedMemberEpoch) Accepted))))
      where
        in_time : is_overtaken a.stamp TheSender.own ≡ false
        in_time = ap (is_overtaken a.stamp) own ∙ ap (λ o. not (is_gt o)) later

    came : (b : Bool) → is_current (suc n) r.epoch r.previous_epoch (Granted g q r (suc n)) ≡ b → ByVerdict (Fenced b) (StepOf (Beats (suc n)) TheSender g a) g answer new
    came b is =
        subst (λ v. ByVerdict v (StepOf (Beats (suc n)) TheSender g a) g answer new) (verdict ∙ ap Fenced is)
        (subst (λ e. StepBy (kind_of e) TheSender g a answer new) epoch step)

    by : (b : Bool) → is_current (suc n) r.epoch r.previous_epoch (Granted g q r (suc n)) ≡ b
        → (answer ≡ Replied (refusal codes.FencedMemberEpoch)) ↔ ¬ IsAtEpoch g q r (suc n)
    by true so = (
      λ fenced. absurd (accepted g a answer new TheSender.own (came true so) fenced),
      λ never. absurd (never (at_epoch g q r (suc n) r.epoch refl so)),
    )
    by false so = (
      λ fenced it. true≢false (sym (is_current_so g q r (suc n) it) ∙ so),
      λ never. (came false so).0,
    )
