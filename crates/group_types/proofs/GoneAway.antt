-- A member that goes away keeps its place.
use Rattle.std.proofs.Common.{◌≡◌, ◌≢◌, max, Option, Some, None, refl, ap, subst, ◌∙◌}
use Rattle.std.specs.FinMap as finite
use Rattle.group_types.specs.Text.{Text}
use Rattle.group_types.specs.Request.{GoesAway, kind_of}
use Rattle.group_types.specs.Group.{Record, Group}
use Rattle.group_types.specs.Leave.{away, gone_away}
use Rattle.group_types.specs.Checks.{Verdict, Accepted, Refused, Overtaken, sender_of, verdict_on}
use Rattle.group_types.specs.HeartbeatStep.{Answer, Arrival, ByVerdict, GoesAwayWith, StepBy, StepOf}
use Rattle.group_types.specs.GoingAway.{GoingAwayKeepsPlace, KeepsPlace}
use Rattle.group_types.proofs.Lookups.{Tie, ties, differs, tie, get-inserted, get-insert_other}
use Rattle.group_types.proofs.Senders.{own_is}
use Rattle.group_types.proofs.Accepted.{Fails, closing_fails, nobody, refusal_fails}
use Rattle.group_types.proofs.Checked.{IsRefusal, refusals_differ}

module _ (g : Group) (a : Arrival) (answer : Answer) (new : Group) where
  unchanged : new ≡ g → Fails answer → KeepsPlace g a answer new
  unchanged same fails =
      record {
        rest = ap (λ (x : Group). record x { records = g.records; clock = g.clock }) same;
        others = λ m other. ap (λ (x : Group). finite.get x.records m) same;
        sender = λ m is. absurd (nobody answer fails m is);
      }

  went : (own : Option Record) → (sender_of g.records a.heartbeat).own ≡ own → GoesAwayWith own g a answer new → KeepsPlace g a answer new
  went None none is = absurd is
  went (Some r) own is =
      let m = a.heartbeat.member in
      let now = max g.clock a.moment in
      let same : new ≡ gone_away g m r a.stamp a.moment = is.1 in
      record {
        rest = ap (λ (x : Group). record x { records = g.records; clock = g.clock }) same;
        others = λ n other. ap (λ (x : Group). finite.get x.records n) same ∙ another n other (tie n m);
        sender = λ n accepted.
            record {
              before = r;
              was = own_is g.records m r own;
              after = away r a.stamp now;
              is = ap (λ (x : Group). finite.get x.records m) same ∙ get-inserted g.records m (away r a.stamp now);
              away = refl;
              last_epoch = refl;
              release = refl;
            };
      }
    where
      another : (n : Text) → n ≢ a.heartbeat.member → Tie n a.heartbeat.member
          → finite.get (gone_away g a.heartbeat.member r a.stamp a.moment).records n ≡ finite.get g.records n
      another n other (ties same) = absurd (other same)
      another n other (differs _ apart) = get-insert_other g.records a.heartbeat.member (away r a.stamp (max g.clock a.moment)) n apart

  abbrev TheVerdict : Verdict
  TheVerdict = verdict_on GoesAway (sender_of g.records a.heartbeat) g a.heartbeat a.stamp

  by_verdict : (v : Verdict) → TheVerdict ≡ v → ByVerdict v (StepOf GoesAway (sender_of g.records a.heartbeat) g a) g answer new → KeepsPlace g a answer new
  by_verdict Accepted so is = went (sender_of g.records a.heartbeat).own refl is
  by_verdict (Refused code) so is =
      unchanged is.1 (refusal_fails answer code (subst IsRefusal so (refusals_differ GoesAway (sender_of g.records a.heartbeat) g a.heartbeat a.stamp)) is.0)
  by_verdict Overtaken so is = unchanged is.1 (closing_fails answer is.0)

pub going_away_keeps_place : GoingAwayKeepsPlace
going_away_keeps_place g a answer new step epoch =
    let sender = sender_of g.records a.heartbeat in
    by_verdict g a answer new (verdict_on GoesAway sender g a.heartbeat a.stamp) refl
    (subst (λ e. StepBy (kind_of e) sender g a answer new) epoch step)
