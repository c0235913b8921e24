-- The fields of each reply.
use Rattle.std.proofs.Common.{◌≡◌, ◌≢◌, ℕ, pos, negsuc, Option, Some, None, MatchOption, refl, sym, ap, ◌∙◌}
use Rattle.std.specs.FinMap as finite
use Rattle.group_types.specs.declared.code.Code.{Code}
use Rattle.group_types.specs.declared.code.Code.TheVariants as codes
use Rattle.group_types.specs.Text.{Text}
use Rattle.group_types.specs.Partition.{Partitions}
use Rattle.group_types.specs.Group.{Record, Group}
use Rattle.group_types.specs.Join.{Name}
use Rattle.group_types.specs.Request.{Kind, Joins, Beats, Leaves, GoesAway, MeansNothing, kind_of}
use Rattle.group_types.specs.Checks.{Verdict, Accepted, Refused, Overtaken, Sender, sender_of, verdict_on}
use Rattle.group_types.specs.HeartbeatStep as machine
use Rattle.group_types.specs.HeartbeatStep.{Answer, Replied, Closes, Reply, Arrival, Draft, ByVerdict, GoesAwayWith, BeatsWith, HeartbeatStep, IsRefused, JoinsAs, StepOf, TakesIn, acceptance, draft_under, epoch_number, farewell, refusal, sent_after, verdict_on_change}
use Rattle.group_types.specs.Fencing.{IsAcceptedAs}
use Rattle.group_types.proofs.Consistent.{consistent}
use Rattle.group_types.proofs.Lookups.{get-inserted}
use Rattle.group_types.proofs.Accepted.{Came, unchanged, has_left, went_away, taken_in, came, nobody, after, news, offered}
use Rattle.machine_laws.specs.Replies.{IsAcceptance, IsFarewell, IsRefusalReply, RepliesAreThese}

reply_is : (x y : Reply) → Replied x ≡ Replied y → x ≡ y
reply_is x y is = cc

-- ---- refusals

module _ (g new : Group) (a : Arrival) (reply : Reply) (fails : reply.code ≢ codes.NoError) where
  refused : (code : Code) → Replied reply ≡ Replied (refusal code) → IsRefusalReply reply
  refused code is =
      let same = reply_is reply (refusal code) is in
      record {
        member = ap (λ (r : Reply). r.member) same;
        epoch = ap (λ (r : Reply). r.epoch) same;
        interval = ap (λ (r : Reply). r.interval) same;
        assignment = ap (λ (r : Reply). r.assignment) same;
      }

  succeeded : (other : Reply) → other.code ≡ codes.NoError → Replied reply ≡ Replied other → IsRefusalReply reply
  succeeded other code is = absurd (fails (ap (λ (r : Reply). r.code) (reply_is reply other is) ∙ code))

  taken : (d : Draft) → TakesIn g d a.heartbeat a.image (Replied reply) new → IsRefusalReply reply
  taken d takes = by (verdict_on_change takes.change g.epoch) takes.step
    where
      by : (v : Verdict) → ByVerdict v (machine.Stages (Rattle.group_types.specs.Renewal.changed_if takes.change d.group (Rattle.group_types.specs.Renewal.view_for a.image d.group.records)) d a.heartbeat) g (Replied reply) new → IsRefusalReply reply
      by Accepted stages = succeeded (acceptance d.id stages.kept stages.told) refl stages.answers
      by (Refused code) (is, same) = refused code is
      by Overtaken (closes, same) = absurd cc

  module _ (sender : Sender) where
    joins : (name : Option Name) → MatchOption name (IsRefused codes.CoordinatorNotAvailable g (Replied reply) new) (λ n. TakesIn g (draft_under n sender g a) a.heartbeat a.image (Replied reply) new)
        → IsRefusalReply reply
    joins None (is, same) = refused codes.CoordinatorNotAvailable is
    joins (Some n) takes = taken (draft_under n sender g a) takes

    beats : (own : Option Record) → BeatsWith own g a (Replied reply) new → IsRefusalReply reply
    beats None never = absurd never
    beats (Some r) takes = taken _ takes

    goes : (own : Option Record) → GoesAwayWith own g a (Replied reply) new → IsRefusalReply reply
    goes None never = absurd never
    goes (Some r) (is, leaves) = succeeded (farewell a.heartbeat.member (negsuc 1)) refl is

    accepted : (kind : Kind) → StepOf kind sender g a (Replied reply) new → IsRefusalReply reply
    accepted Joins step = joins step.name step.joins
    accepted (Beats n) step = beats sender.own step
    accepted Leaves (is, leaves) = succeeded (farewell a.heartbeat.member (negsuc 0)) refl is
    accepted GoesAway step = goes sender.own step
    accepted MeansNothing never = absurd never

    judged : (kind : Kind) (v : Verdict) → ByVerdict v (StepOf kind sender g a) g (Replied reply) new → IsRefusalReply reply
    judged kind Accepted step = accepted kind step
    judged kind (Refused code) (is, same) = refused code is
    judged kind Overtaken (closes, same) = absurd cc

refusals : (g : Group) (a : Arrival) (reply : Reply) (new : Group) → HeartbeatStep g a (Replied reply) new → reply.code ≢ codes.NoError → IsRefusalReply reply
refusals g a reply new step fails =
    let sender = sender_of g.records a.heartbeat in let kind = kind_of a.heartbeat.epoch in
    judged g new a reply fails sender kind (verdict_on kind sender g a.heartbeat a.stamp) step

-- ---- what is accepted

leaves_with : (m : Text) (epoch : _) (reply : Reply) → reply ≡ farewell m epoch → IsFarewell reply m epoch
leaves_with m epoch reply same =
    record {
      code = ap (λ (r : Reply). r.code) same;
      member = ap (λ (r : Reply). r.member) same;
      is_epoch = ap (λ (r : Reply). r.epoch) same;
      interval = ap (λ (r : Reply). r.interval) same;
      assignment = ap (λ (r : Reply). r.assignment) same;
    }

farewells : (g : Group) (a : Arrival) (m : Text) (answer : Answer) (new : Group) (n : ℕ) → Came g a answer new → a.heartbeat.epoch ≡ negsuc n
    → (accepted : IsAcceptedAs m answer) → IsFarewell accepted.reply a.heartbeat.member a.heartbeat.epoch
farewells g a m answer new n (unchanged same fails) at accepted = absurd (nobody answer fails m accepted)
farewells g a m answer new n (has_left r epoch there later answers is) at accepted =
    leaves_with a.heartbeat.member a.heartbeat.epoch accepted.reply
    (reply_is accepted.reply (farewell a.heartbeat.member (negsuc 0)) (sym accepted.is_reply ∙ answers) ∙ ap (farewell a.heartbeat.member) (sym epoch))
farewells g a m answer new n (went_away r epoch there later answers is) at accepted =
    leaves_with a.heartbeat.member a.heartbeat.epoch accepted.reply
    (reply_is accepted.reply (farewell a.heartbeat.member (negsuc 1)) (sym accepted.is_reply ∙ answers) ∙ ap (farewell a.heartbeat.member) (sym epoch))
farewells g a m answer new n (taken_in d drafting stages takes) at accepted = let joins = drafting.epoch.1 in absurd cc

sent_epoch : (r : Record) (o : Option Partitions) → (sent_after r o).epoch ≡ r.epoch
sent_epoch r None = refl
sent_epoch r (Some set) = refl

acceptances : (g : Group) (a : Arrival) (m : Text) (answer : Answer) (new : Group) (n : ℕ) → Came g a answer new → a.heartbeat.epoch ≡ pos n
    → (accepted : IsAcceptedAs m answer) → IsAcceptance accepted.reply new m
acceptances g a m answer new n (unchanged same fails) at accepted = absurd (nobody answer fails m accepted)
acceptances g a m answer new n (has_left r epoch there later answers is) at accepted = absurd cc
acceptances g a m answer new n (went_away r epoch there later answers is) at accepted = absurd cc
acceptances g a m answer new n (taken_in d drafting stages takes) at accepted =
    let settled : Record = after stages.renewed d a.heartbeat in
    let told : Option Partitions = news stages.renewed d a.heartbeat in
    let kept : Record = sent_after settled told in
    let same = reply_is accepted.reply (acceptance d.id settled told) (sym accepted.is_reply ∙ stages.answers) in
    let id : m ≡ d.id = some_text m d.id (sym accepted.member ∙ ap (λ (r : Reply). r.member) same) in
    record {
      kept = kept;
      is_kept = ap (finite.get new.records) id ∙ ap (λ (x : Group). finite.get x.records d.id) stages.is_new
          ∙ get-inserted (offered stages.renewed d a.heartbeat).records d.id kept;
      epoch = λ e is. ap (λ (r : Reply). r.epoch) same ∙ ap epoch_number (sym (sent_epoch settled told) ∙ is);
      interval = ap (λ (r : Reply). r.interval) same;
    }
  where
    some_text : (x y : Text) → Some x ≡ Some y → x ≡ y
    some_text x y is = cc

pub replies_are_these : RepliesAreThese
replies_are_these =
    record {
      refusals = refusals;
      farewells = λ g a m answer new n sound step at accepted. farewells g a m answer new n (came g (consistent g sound) a answer new step) at accepted;
      acceptances = λ g a m answer new n sound step at accepted. acceptances g a m answer new n (came g (consistent g sound) a answer new step) at accepted;
    }
