-- A heartbeat leaves a consistent group: the draft, the change and the renewal, the settling, and the reply. So does any event.
use Rattle.std.proofs.Common.{◌≡◌, suc, Bool, true, false, cond, ◌&&◌, nat_le, max, Option, Some, None, MatchOption, is_none, refl, sym, ap, subst, ◌∙◌, arith, true≢false}
use Rattle.std.specs.FinMap as finite
use Rattle.std.proofs.lemmas.Bool.{leb-false}
use Rattle.group_types.specs.declared.code.Code.TheVariants as codes
use Rattle.group_types.specs.Limits.{GREATEST_EPOCH}
use Rattle.group_types.specs.Text.{Text}
use Rattle.group_types.specs.Partition.{Partitions}
use Rattle.group_types.specs.Topics.{Topics}
use Rattle.group_types.specs.Request.{Heartbeat, Kind, Joins, Beats, Leaves, GoesAway, MeansNothing, kind_of, reported}
use Rattle.group_types.specs.Group.{Record, Group}
use Rattle.group_types.specs.Renewal.{changed_if, view_for}
use Rattle.group_types.specs.Join.{IsNamed, Name}
use Rattle.group_types.specs.Leave.{last_epoch}
use Rattle.group_types.specs.Checks.{Verdict, Accepted, Refused, Overtaken, Sender, sender_of, verdict_on}
use Rattle.group_types.specs.HeartbeatStep.{Answer, Arrival, Draft, BeatsWith, ByVerdict, GoesAwayWith, HeartbeatStep, IsRefused, JoinsAs, Stages, StepOf, TakesIn, draft_under, sent_after}
use Rattle.group_types.proofs.Consistent.{IsConsistent}
use Rattle.group_types.specs.Laws.{GroupEvent, IsGroupStep, OfCommit, OfHeartbeat, OfTick}
use Rattle.group_types.proofs.Soundness.{committed_is_consistent, gone_away_is_consistent, left_is_consistent, ticked_is_consistent}
use Rattle.group_types.proofs.Stored.{fit_as_before, kept_is_consistent}
use Rattle.group_types.proofs.Settlings.{settled_is_consistent}
use Rattle.group_types.proofs.Renewals.{changed_is_consistent, renewed_is_consistent}
use Rattle.group_types.proofs.Senders.{own_is}
use Rattle.group_types.proofs.Drafts.{IsReady, beat_is_ready, join_is_ready, same_last_epoch}

-- ---- the reply

sent_epoch : (r : Record) (o : Option Partitions) → last_epoch (sent_after r o) ≡ last_epoch r
sent_epoch r None = refl
sent_epoch r (Some set) = same_last_epoch r.epoch (record r { sent = Some set }) r refl

sent_instance : (r : Record) (o : Option Partitions) → (sent_after r o).instance ≡ r.instance
sent_instance r None = refl
sent_instance r (Some set) = refl

-- the member was told what it holds
sent_is_consistent : (g : Group) → IsConsistent g → (m : Text) (r : Record) (sent : Option Partitions) → finite.get g.records m ≡ Some r
    → IsConsistent (record g { records = finite.insert g.records m (sent_after r sent) })
sent_is_consistent g sound m r sent kept =
    kept_is_consistent g sound m (sent_after r sent) (fit_as_before g sound m r (sent_after r sent) kept (sent_epoch r sent) (sent_instance r sent)) r kept

settles_consistently : (changed : Group) (d : Draft) (q : Heartbeat) (answer : Answer) (new : Group) (stages : Stages changed d q answer new) → IsConsistent stages.renewed → IsConsistent new
settles_consistently changed d q answer new stages sound =
    let renewed : Group = stages.renewed in
    let is_sound : IsConsistent stages.settled = subst IsConsistent (sym stages.settles) (settled_is_consistent renewed sound d.id (reported q) renewed.clock) in
    subst IsConsistent (sym stages.leaves) (sent_is_consistent stages.settled is_sound d.id stages.kept stages.told stages.is_kept)

-- ---- the change and the renewal

module _ (g : Group) (sound : IsConsistent g) (d : Draft) (ready : IsReady g d) (q : Heartbeat) (image : Topics) (answer : Answer) (new : Group) where
  abbrev View : Topics
  View = view_for image d.group.records

  goes_consistently : (change : Bool) → (change && nat_le GREATEST_EPOCH g.epoch) ≡ false → Stages (changed_if change d.group View) d q answer new → IsConsistent new
  goes_consistently false room stages =
      settles_consistently d.group d q answer new stages (renewed_is_consistent d.group ready.sound stages.renewed stages.renews)
  goes_consistently true room stages =
      let below = leb-false GREATEST_EPOCH g.epoch room in
      let same = ready.epoch in
      let target = ready.sound.target_epoch in
      settles_consistently (changed_if true d.group View) d q answer new stages
      (changed_is_consistent d.group ready.sound (suc d.group.epoch) View stages.renewed (omega (arith, target)) (omega (arith, below, same)) stages.renews)

  taken_in_consistently : TakesIn g d q image answer new → IsConsistent new
  taken_in_consistently takes = by (takes.change && nat_le GREATEST_EPOCH g.epoch) refl takes.step
    where
      by : (b : Bool) → (takes.change && nat_le GREATEST_EPOCH g.epoch) ≡ b
          → ByVerdict (cond b (Refused codes.CoordinatorNotAvailable) Accepted) (Stages (changed_if takes.change d.group View) d q) g answer new → IsConsistent new
      by true stuck is = subst IsConsistent (sym is.1) sound
      by false room is = goes_consistently takes.change room is

-- ---- the checks

abbrev Accepts : Verdict → Type 0
Accepts Accepted = Unit {0}
Accepts (Refused code) = ⊥
Accepts Overtaken = ⊥

-- a check that would refuse doesn't apply
passed : (b : Bool) (v rest : Verdict) → (v ≡ Accepted → ⊥) → cond b v rest ≡ Accepted → (b ≡ false) × (rest ≡ Accepted)
passed true v rest fails is = absurd (fails is)
passed false v rest fails is = (refl, is)

refuses : (code : _) → Refused code ≡ Accepted → ⊥
refuses code is = subst Accepts (sym is) tt

overtakes : Overtaken ≡ Accepted → ⊥
overtakes is = subst Accepts (sym is) tt

-- ---- by the kind of heartbeat

module _ (g : Group) (sound : IsConsistent g) (a : Arrival) (answer : Answer) (new : Group) where
  abbrev TheSender : Sender
  TheSender = sender_of g.records a.heartbeat

  joins_consistently : verdict_on Joins TheSender g a.heartbeat a.stamp ≡ Accepted → JoinsAs TheSender g a answer new → IsConsistent new
  joins_consistently accepted joins = by joins.name joins.is_named joins.joins
    where
      by : (o : Option Name) → IsNamed g a.heartbeat.member o
          → MatchOption o (IsRefused codes.CoordinatorNotAvailable g answer new) (λ n. TakesIn g (draft_under n TheSender g a) a.heartbeat a.image answer new) → IsConsistent new
      by None named is = subst IsConsistent (sym is.1) sound
      by (Some name) named is =
          let valid = passed _ _ _ (refuses codes.InvalidRequest) accepted in
          let supported = passed _ _ _ (refuses codes.UnsupportedAssignor) valid.1 in
          let in_time = passed _ _ _ overtakes supported.1 in
          let released = passed _ _ _ (refuses codes.UnreleasedInstanceId) in_time.1 in
          let room = passed _ _ _ (refuses codes.GroupMaxSizeReached) released.1 in
          taken_in_consistently g sound _ (join_is_ready g sound (max g.clock a.moment) a.heartbeat a.stamp name named TheSender.own refl TheSender.other refl released.0 room.0) a.heartbeat a.image answer new is

  beats_consistently : (own : Option Record) → TheSender.own ≡ own → BeatsWith own g a answer new → IsConsistent new
  beats_consistently None none is = absurd is
  beats_consistently (Some r) own is =
      taken_in_consistently g sound _ (beat_is_ready g sound (max g.clock a.moment) r a.heartbeat a.stamp (own_is g.records a.heartbeat.member r own)) a.heartbeat a.image answer new is

  leaves_consistently : verdict_on Leaves TheSender g a.heartbeat a.stamp ≡ Accepted → (own : Option Record) → TheSender.own ≡ own → StepOf Leaves TheSender g a answer new → IsConsistent new
  leaves_consistently accepted None none is =
      let valid = passed _ _ _ (refuses codes.InvalidRequest) accepted in
      let known = passed _ _ _ (refuses codes.UnknownMemberId) valid.1 in
      absurd (true≢false (sym (ap is_none none) ∙ known.0))
  leaves_consistently accepted (Some r) own is =
      subst IsConsistent (sym is.1) (left_is_consistent g sound a.heartbeat.member r (own_is g.records a.heartbeat.member r own) a.stamp a.moment)

  goes_away_consistently : (own : Option Record) → TheSender.own ≡ own → GoesAwayWith own g a answer new → IsConsistent new
  goes_away_consistently None none is = absurd is
  goes_away_consistently (Some r) own is =
      subst IsConsistent (sym is.1) (gone_away_is_consistent g sound a.heartbeat.member r (own_is g.records a.heartbeat.member r own) a.stamp a.moment)

  steps_consistently : (kind : Kind) → verdict_on kind TheSender g a.heartbeat a.stamp ≡ Accepted → StepOf kind TheSender g a answer new → IsConsistent new
  steps_consistently Joins accepted is = joins_consistently accepted is
  steps_consistently (Beats n) accepted is = beats_consistently TheSender.own refl is
  steps_consistently Leaves accepted is = leaves_consistently accepted TheSender.own refl is
  steps_consistently GoesAway accepted is = goes_away_consistently TheSender.own refl is
  steps_consistently MeansNothing accepted is = absurd is

  by_verdict : (kind : Kind) (v : Verdict) → verdict_on kind TheSender g a.heartbeat a.stamp ≡ v → ByVerdict v (StepOf kind TheSender g a) g answer new → IsConsistent new
  by_verdict kind Accepted accepted is = steps_consistently kind accepted is
  by_verdict kind (Refused code) refused is = subst IsConsistent (sym is.1) sound
  by_verdict kind Overtaken late is = subst IsConsistent (sym is.1) sound

pub heartbeats_are_consistent : (g : Group) (a : Arrival) (answer : Answer) (new : Group) → HeartbeatStep g a answer new → IsConsistent g → IsConsistent new
heartbeats_are_consistent g a answer new step sound =
    by_verdict g sound a answer new (kind_of a.heartbeat.epoch) (verdict_on (kind_of a.heartbeat.epoch) (sender_of g.records a.heartbeat) g a.heartbeat a.stamp) refl step

-- ---- any event

pub step_is_consistent : (event : GroupEvent) (g new : Group) → IsGroupStep g event new → IsConsistent g → IsConsistent new
step_is_consistent (OfHeartbeat a answer) g new step sound = heartbeats_are_consistent g a answer new step.1 sound
step_is_consistent (OfTick moment) g new step sound = subst IsConsistent (sym step) (ticked_is_consistent g sound moment)
step_is_consistent (OfCommit c image reply) g new step sound = committed_is_consistent g c image reply new step sound
