-- A renewed target is lawful, also once its member has settled.
use Rattle.std.proofs.Common.{◌≡◌, ◌≢◌, suc, ◌==◌, Bool, true, false, cond, ◌&&◌, nat_le, max, Option, Some, None, refl, sym, ap, subst, ◌∙◌}
use Rattle.std.specs.Option.{MatchOption}
use Rattle.std.specs.FinMap as finite
use Rattle.group_types.specs.Limits.{GREATEST_EPOCH}
use Rattle.group_types.specs.declared.code.Code.TheVariants as codes
use Rattle.group_types.specs.Topics.{Topics}
use Rattle.group_types.specs.Request.{Heartbeat, Kind, Joins, Beats, Leaves, GoesAway, MeansNothing, kind_of, reported}
use Rattle.group_types.specs.Group.{Group, Record, Target, wanted}
use Rattle.group_types.specs.Settle.{may_settle, settled}
use Rattle.group_types.specs.Renewal.{RenewsWhere, changed_if, view_for}
use Rattle.group_types.specs.Join.{Name}
use Rattle.group_types.specs.Checks.{Verdict, Accepted, Refused, Overtaken, Member, Sender, sender_of, verdict_on}
use Rattle.group_types.specs.HeartbeatStep.{Answer, Arrival, Draft, BeatsWith, ByVerdict, GoesAwayWith, HeartbeatStep, IsRefused, Stages, StepOf, TakesIn, draft_of_beat, draft_of_join, draft_under, sent_after}
use Rattle.group_types.specs.Sound.{IsSound}
use Rattle.group_types.specs.Targets.{AssignorsAreLawful, IsLawfulFor}
use Rattle.group_types.proofs.LawfulTargets.{Settles, lawful_by_members, lawful_renamed, same_name, same_owners, sent_lawfully, sent_names, settles_by, target_lawful}
use Rattle.world_sim.specs.Exclusivity.{HasLawfulTarget}

-- ---- the stages

abbrev pub RenewedLawfully : Group → Group → Type 0
RenewedLawfully g new = g.target_epoch ≢ new.target_epoch → HasLawfulTarget new

unrenewed : (g new : Group) → new.target_epoch ≡ g.target_epoch → RenewedLawfully g new
unrenewed g new same other = absurd (other (sym same))

module _ (assignors : AssignorsAreLawful) where
  -- from a changed draft on
  goes_lawfully : (changed : Group) (d : Draft) (q : Heartbeat) (answer : Answer) (new : Group) → Stages changed d q answer new → RenewedLawfully changed new
  goes_lawfully changed d q answer new stages = by (changed.epoch == changed.target_epoch) stages.renews
    where
      renewed : Group
      renewed = stages.renewed

      s : Group
      s = settled renewed d.id (reported q) renewed.clock

      settling : Settles renewed s
      settling = settles_by (may_settle renewed.grants d.id (wanted renewed.target d.id) (reported q)) renewed d.id (finite.get renewed.records d.id) refl renewed.clock

      leaves : new ≡ record s { records = finite.insert s.records d.id (sent_after stages.kept stages.told) }
      leaves = stages.leaves ∙ ap (λ (x : Group). record x { records = finite.insert x.records d.id (sent_after stages.kept stages.told) }) stages.settles

      epoch_after : new.target_epoch ≡ renewed.target_epoch
      epoch_after = ap (λ (x : Group). x.target_epoch) leaves ∙ settling.target_epoch

      after : IsLawfulFor renewed.records renewed.view renewed.target → HasLawfulTarget new
      after lawful =
          let kept : finite.get s.records d.id ≡ Some stages.kept = ap (λ (x : Group). finite.get x.records d.id) (sym stages.settles) ∙ stages.is_kept in
          let last : Record = sent_after stages.kept stages.told in
          let here : IsLawfulFor s.records s.view s.target =
          subst (λ (view : Topics). IsLawfulFor s.records view s.target) (sym settling.view)
          (lawful_renamed renewed.records s.records same_name renewed.view renewed.target s.target settling.renames
          (λ p. ap (λ (t : Target). finite.get t p) settling.target ∙ same_owners renewed.target p) lawful) in
          subst HasLawfulTarget (sym leaves)
          (lawful_by_members (finite.insert s.records d.id last) s.view s.target (sent_lawfully s d.id stages.kept last kept (sent_names stages.kept stages.told) here))

      by : (b : Bool) → RenewsWhere b changed renewed → RenewedLawfully changed new
      by true is other = unrenewed changed new (epoch_after ∙ ap (λ (x : Group). x.target_epoch) is) other
      by false (target, is_target, is) other =
          after (subst (λ (x : Group). IsLawfulFor x.records x.view x.target) (sym is) (target_lawful assignors changed.records changed.view changed.target target is_target))

  changed_lawfully : (change : Bool) (g : Group) (view : Topics) (d : Draft) (q : Heartbeat) (answer : Answer) (new : Group)
      → Stages (changed_if change g view) d q answer new → RenewedLawfully g new
  changed_lawfully true g view d q answer new stages = goes_lawfully (record g { epoch = suc g.epoch; view = view }) d q answer new stages
  changed_lawfully false g view d q answer new stages = goes_lawfully g d q answer new stages

  module _ (g : Group) (d : Draft) (same : d.group.target_epoch ≡ g.target_epoch) (q : Heartbeat) (image : Topics) (answer : Answer) (new : Group) where
    takes_lawfully : TakesIn g d q image answer new → RenewedLawfully g new
    takes_lawfully takes = by (takes.change && nat_le GREATEST_EPOCH g.epoch) takes.step
      where
        by : (b : Bool) → ByVerdict (cond b (Refused codes.CoordinatorNotAvailable) Accepted) (Stages (changed_if takes.change d.group (view_for image d.group.records)) d q) g answer new → RenewedLawfully g new
        by true is other = unrenewed g new (ap (λ (x : Group). x.target_epoch) is.1) other
        by false goes other = changed_lawfully takes.change d.group (view_for image d.group.records) d q answer new goes (λ is. other (sym same ∙ is))

  -- ---- by the kind of heartbeat

  module _ (g : Group) (sound : IsSound g) (a : Arrival) (answer : Answer) (new : Group) where
    abbrev TheSender : Sender
    TheSender = sender_of g.records a.heartbeat

    joins_lawfully : (name : Option Name) → MatchOption name (IsRefused codes.CoordinatorNotAvailable g answer new) (λ n. TakesIn g (draft_under n TheSender g a) a.heartbeat a.image answer new) → RenewedLawfully g new
    joins_lawfully None is = unrenewed g new (ap (λ (x : Group). x.target_epoch) is.1)
    joins_lawfully (Some name) is = takes_lawfully g (draft_under name TheSender g a) (draft_epoch TheSender.own TheSender.other) a.heartbeat a.image answer new is
      where
        draft_epoch : (own : Option Record) (other : Option Member) → (draft_of_join (record g { serial = name.next_serial }) (max g.clock a.moment) name.id own other a.heartbeat a.stamp).group.target_epoch ≡ g.target_epoch
        draft_epoch None None = refl
        draft_epoch None (Some old) = refl
        draft_epoch (Some r) other = refl

    beats_lawfully : (own : Option Record) → BeatsWith own g a answer new → RenewedLawfully g new
    beats_lawfully None is = absurd is
    beats_lawfully (Some r) is = takes_lawfully g (draft_of_beat g (max g.clock a.moment) r a.heartbeat a.stamp) refl a.heartbeat a.image answer new is

    goes_away_lawfully : (own : Option Record) → GoesAwayWith own g a answer new → RenewedLawfully g new
    goes_away_lawfully None is = absurd is
    goes_away_lawfully (Some r) is = unrenewed g new (ap (λ (x : Group). x.target_epoch) is.1)

    steps_lawfully : (kind : Kind) → verdict_on kind TheSender g a.heartbeat a.stamp ≡ Accepted → StepOf kind TheSender g a answer new → RenewedLawfully g new
    steps_lawfully Joins verdict is = joins_lawfully is.name is.joins
    steps_lawfully (Beats n) verdict is = beats_lawfully TheSender.own is
    steps_lawfully Leaves verdict is = unrenewed g new (ap (λ (x : Group). x.target_epoch) is.1)
    steps_lawfully GoesAway verdict is = goes_away_lawfully TheSender.own is
    steps_lawfully MeansNothing verdict is = absurd is

    by_verdict : (kind : Kind) (v : Verdict) → verdict_on kind TheSender g a.heartbeat a.stamp ≡ v → ByVerdict v (StepOf kind TheSender g a) g answer new → RenewedLawfully g new
    by_verdict kind Accepted verdict is = steps_lawfully kind verdict is
    by_verdict kind (Refused code) verdict is = unrenewed g new (ap (λ (x : Group). x.target_epoch) is.1)
    by_verdict kind Overtaken verdict is = unrenewed g new (ap (λ (x : Group). x.target_epoch) is.1)

    pub heartbeat_renews : HeartbeatStep g a answer new → RenewedLawfully g new
    heartbeat_renews step = by_verdict (kind_of a.heartbeat.epoch) (verdict_on (kind_of a.heartbeat.epoch) TheSender g a.heartbeat a.stamp) refl step
