-- The first join's answer, by its checks.
use Rattle.std.proofs.Common.{◌≡◌, ℕ, suc, max, Bool, true, false, nat_le, refl, sym, ap, subst, ◌∙◌, [], ◌∷◌, Option, Some, None}
use Rattle.std.specs.FinMap as finite
use Rattle.std.specs.Option.{MatchOption}
use Rattle.group_types.specs.declared.code.Code.TheVariants as codes
use Rattle.group_types.specs.Limits.{GREATEST_EPOCH}
use Rattle.group_types.specs.Text.{Text}
use Rattle.group_types.specs.Sets.{nothing}
use Rattle.group_types.specs.Topics.{Topics, view_of}
use Rattle.group_types.specs.MemberId.{made_id}
use Rattle.group_types.specs.Request.{Joins, Kind, is_invalid, is_unsupported}
use Rattle.group_types.specs.Group.{Group, Record, Target, starting_group, wanted}
use Rattle.group_types.specs.Join.{Name, names_after, record_of_join}
use Rattle.group_types.specs.Renewal.{IsTarget, RenewsWhere, changed_if, view_for}
use Rattle.group_types.specs.Checks.{Accepted, Refused, Sender, first_of, request_checks, sender_of}
use Rattle.group_types.specs.HeartbeatStep.{Answer, Arrival, Stages, IsRefused, TakesIn, draft_under, StepOf, StepBy, HeartbeatStep, ByVerdict, verdict_on_change}
use Rattle.group_core.specs.Checks.{MakesMember, verdict_on_request}
use Rattle.group_core.specs.FirstMember.{JoinsFirst, first_draft, nobody, one_record}
use Rattle.group_core.specs.Laws.{IsAnsweredBy, IsFirstAcceptance, FirstJoinsAreAnswered}
use Rattle.group_core.proofs.FirstJoin.{joins_first, rises, view_for-single}
use Rattle.group_core.proofs.OneStep.{same_heartbeat_step, same_name}
use Rattle.group_core.proofs.SoleMember.{all_of_target}
use Rattle.group_core.proofs.Steps.{JoinsIfItRises, accepts_by, first_name, is_first_name, is_joining, request_of_join, sender_is_nobody, verdict_is}

module _ (salt epoch : ℕ) (h : Arrival) (makes : MakesMember h.heartbeat) where
  abbrev the_group : Group
  the_group = starting_group salt epoch

  abbrev the_record : Record
  the_record = record_of_join None h.heartbeat h.stamp (max 0 h.moment)

  abbrev the_id : Text
  the_id = made_id salt 1

  abbrev the_view : Topics
  the_view = view_of h.image the_record.names

  abbrev TheTarget : Target → Type 0
  TheTarget target = IsTarget (one_record the_id the_record) the_view finite.empty target

  -- the target of a join that was accepted
  target_of_join : (answer : Answer) (new : Group) → JoinsFirst the_group h answer new → (target : Target) × TheTarget target
  target_of_join answer new joins =
      let after : Group = changed_if true (first_draft the_group h).group (view_for h.image (first_draft the_group h).group.records) in
      let renewed : RenewsWhere false after joins.renewed = subst (λ b. RenewsWhere b after joins.renewed) (rises epoch) joins.renews in
      let is : TheTarget renewed.0 = subst (λ v. IsTarget (one_record the_id the_record) v finite.empty renewed.0) (view_for-single h.image the_id the_record) renewed.1 in
      (renewed.0, is)

  -- the step, once it is known whose it is
  by_checks : (answer : Answer) (new : Group) → HeartbeatStep the_group h answer new → ByVerdict (first_of (request_checks Joins h.heartbeat)) (StepOf Joins nobody the_group h) the_group answer new
  by_checks answer new step =
      let by_kind : StepBy Joins (sender_of the_group.records h.heartbeat) the_group h answer new =
      subst (λ (k : Kind). StepBy k (sender_of the_group.records h.heartbeat) the_group h answer new) (is_joining h.heartbeat makes.joins) step in
      let by_sender : StepBy Joins nobody the_group h answer new =
      subst (λ (s : Sender). StepBy Joins s the_group h answer new) (sender_is_nobody salt epoch h.heartbeat makes) by_kind in
      subst (λ v. ByVerdict v (StepOf Joins nobody the_group h) the_group answer new) (verdict_is salt epoch h.heartbeat h.stamp) by_sender

  -- a draft of a new member, by whether it is a change
  abbrev Continues : Bool → Answer → Group → Type 0
  Continues change answer new =
      ByVerdict (verdict_on_change change epoch)
      (Stages (changed_if change (first_draft the_group h).group (view_for h.image (first_draft the_group h).group.records)) (first_draft the_group h) h.heartbeat) the_group answer new

  -- an accepted request joins where the epoch can rise
  by_rising : (answer : Answer) (new : Group) → StepOf Joins nobody the_group h answer new → JoinsIfItRises salt epoch h (nat_le GREATEST_EPOCH epoch) answer new
  by_rising answer new step =
      let named : step.name ≡ Some (first_name salt epoch) =
      same_name the_group h.heartbeat.member step.name (Some (first_name salt epoch)) step.is_named (is_first_name salt epoch h.heartbeat.member makes.has_no_id) in
      let taken : TakesIn the_group (draft_under (first_name salt epoch) nobody the_group h) h.heartbeat h.image answer new =
      subst (λ (o : Option Name). MatchOption o (IsRefused codes.CoordinatorNotAvailable the_group answer new) (λ n. TakesIn the_group (draft_under n nobody the_group h) h.heartbeat h.image answer new)) named step.joins in
      subst (λ (change : Bool). Continues change answer new) taken.is_change taken.step

  -- an accepted join is the closed form's
  acceptance : verdict_on_request h.heartbeat ≡ Accepted → nat_le GREATEST_EPOCH epoch ≡ false → (answer : Answer) (new : Group)
      → HeartbeatStep the_group h answer new → JoinsFirst the_group h answer new
      → IsFirstAcceptance salt (suc epoch) h.image (names_after nothing h.heartbeat.names) answer new
  acceptance verdict below answer new step joins =
      let there = target_of_join answer new joins in
      let closed = joins_first salt epoch the_id h (max 0 h.moment) there.0 refl refl makes.joins there.1 in
      let same = same_heartbeat_step the_group h answer _ new _ step (accepts_by salt epoch h makes verdict false below _ _ closed) in
      (wanted there.0 the_id, all_of_target the_id the_record the_view finite.empty there.0 there.1, same.0, ap (λ (g : Group). g.epoch) same.1)

  by_verdict : (invalid unsupported greatest : Bool) (answer : Answer) (new : Group)
      → (first_of ((invalid, Refused codes.InvalidRequest) ∷ (unsupported, Refused codes.UnsupportedAssignor) ∷ []) ≡ Accepted → greatest ≡ false
      → JoinsIfItRises salt epoch h false answer new → IsFirstAcceptance salt (suc epoch) h.image (names_after nothing h.heartbeat.names) answer new)
      → (StepOf Joins nobody the_group h answer new → JoinsIfItRises salt epoch h greatest answer new)
      → ByVerdict (first_of ((invalid, Refused codes.InvalidRequest) ∷ (unsupported, Refused codes.UnsupportedAssignor) ∷ [])) (StepOf Joins nobody the_group h) the_group answer new
      → IsAnsweredBy (first_of ((invalid, Refused codes.InvalidRequest) ∷ (unsupported, Refused codes.UnsupportedAssignor) ∷ (greatest, Refused codes.CoordinatorNotAvailable) ∷ [])) salt epoch h.image (names_after nothing h.heartbeat.names) answer new
  by_verdict true unsupported greatest answer new accepted rising by = by
  by_verdict false true greatest answer new accepted rising by = by
  by_verdict false false true answer new accepted rising by = rising by
  by_verdict false false false answer new accepted rising by = accepted refl refl (rising by)

pub answered : FirstJoinsAreAnswered
answered salt epoch h answer new makes step =
    by_verdict salt epoch h makes (is_invalid h.heartbeat) (is_unsupported h.heartbeat) (nat_le GREATEST_EPOCH epoch) answer new
    (λ verdict below joins. acceptance salt epoch h makes (sym (request_of_join h.heartbeat makes.joins) ∙ verdict) below answer new step joins)
    (by_rising salt epoch h makes answer new)
    (by_checks salt epoch h makes answer new step)
