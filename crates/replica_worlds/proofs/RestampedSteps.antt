-- A heartbeat, a tick and a commit at a group, with other stamps.
use Rattle.std.proofs.Common.{◌≡◌, ℕ, ℤ, pos, ◌&&◌, ◌==◌, int_lt, List, [], ◌∷◌, map, max, length, Option, Some, None, MatchOption, if◌then◌else◌, refl, sym, ap, subst, ◌∙◌}
use Rattle.std.specs.List.{filter}
use Rattle.std.specs.Option.{option_map}
use Rattle.std.specs.FinMap as finite
use Rattle.std.proofs.lemmas.List.{length-map}
use Rattle.group_types.specs.declared.code.Code.{Code}
use Rattle.group_types.specs.declared.code.Code.TheVariants as codes
use Rattle.group_types.specs.declared.epoch.Epoch.{Epoch}
use Rattle.group_types.specs.declared.epoch.Epoch.TheVariants.{At, Away}
use Rattle.group_types.specs.declared.stamp.Stamp.{Stamp}
use Rattle.group_types.specs.Text.{Text}
use Rattle.group_types.specs.Topics.{Topics}
use Rattle.group_types.specs.Request.{Kind, Joins, Beats, Leaves, GoesAway, MeansNothing, kind_of}
use Rattle.group_types.specs.Owners.{without_owner}
use Rattle.group_types.specs.Group.{Group, Record, Records, new_group}
use Rattle.group_types.specs.Members.{members_of, with_members}
use Rattle.group_types.specs.Settle.{grants_of_others}
use Rattle.group_types.specs.Join.{Name}
use Rattle.group_types.specs.Leave.{away, gone_away, last_epoch_at, left, risen, without_member}
use Rattle.group_types.specs.Tick.{at_moment, due, expired, is_due, removed_by_tick, ticked, without_members}
use Rattle.group_types.specs.Commit.{Commit, CommitReply, CommitStep, commit_reply, offsets_after, refusal_of_commit, refusal_of_member}
use Rattle.group_types.specs.Checks.{Sender, sender_of, verdict_on}
use Rattle.group_types.specs.HeartbeatStep.{Answer, Arrival, BeatsWith, ByVerdict, Draft, GoesAwayWith, HeartbeatStep, IsRefused, JoinsAs, StepOf, TakesIn, draft_of_beat, draft_under}
use Rattle.replica_worlds.proofs.WithValues.{changed, empty_changed, entries_changed, filter_changed, get_changed, insert_changed, len_changed}
use Rattle.replica_worlds.proofs.RestampedMembers.{AgreesOn, group_of, record_of, records_of, sender_as, sender_of_as, verdict_as, without_record_as}
use Rattle.replica_worlds.proofs.RestampedDrafts.{arrival_as, by_verdict_as, draft_of_beat_as, draft_under_as, named_as, takes_in_as}

module _ (other : Stamp → Stamp) where
  pub new_group_as : (salt : ℕ) → group_of other (new_group salt) ≡ new_group salt
  new_group_as salt = λ i. record (new_group salt) { records = empty_changed (record_of other) i }

  -- ---- who leaves

  without_member_as : (g : Group) (m : Text) (stamp : Stamp) → group_of other (without_member g m stamp) ≡ without_member (group_of other g) m (other stamp)
  without_member_as g m stamp =
      λ i. record (with_members g (without_record_as other (members_of g) m stamp i)) { target = without_owner g.target m; grants = grants_of_others g.grants m }

  left_as : (g : Group) (m : Text) (stamp : Stamp) (moment : ℕ) → group_of other (left g m stamp moment) ≡ left (group_of other g) m (other stamp) moment
  left_as g m stamp moment = without_member_as (record g { clock = max g.clock moment; epoch = risen g.epoch }) m stamp

  last_epoch_as : (e : Epoch) (r : Record) → last_epoch_at e r ≡ last_epoch_at e (record_of other r)
  last_epoch_as (At e) r = refl
  last_epoch_as Away r = refl

  away_as : (r : Record) (stamp : Stamp) (now : ℕ) → record_of other (away r stamp now) ≡ away (record_of other r) (other stamp) now
  away_as r stamp now = λ i. record (away (record_of other r) (other stamp) now) { previous_epoch = last_epoch_as r.epoch r i }

  gone_away_as : (g : Group) (m : Text) (r : Record) (stamp : Stamp) (moment : ℕ) → group_of other (gone_away g m r stamp moment) ≡ gone_away (group_of other g) m (record_of other r) (other stamp) moment
  gone_away_as g m r stamp moment =
      let now = max g.clock moment in
      let records : records_of other (finite.insert g.records m (away r stamp now)) ≡ finite.insert (records_of other g.records) m (away (record_of other r) (other stamp) now) =
      insert_changed (record_of other) g.records m (away r stamp now) ∙ ap (finite.insert (records_of other g.records) m) (away_as r stamp now)
      in
      λ i. record (group_of other g) { clock = now; records = records i }

  -- ---- a heartbeat

  joins_as : (sender : Sender) (g : Group) (a : Arrival) (answer : Answer) (new : Group) → JoinsAs sender g a answer new
      → JoinsAs (sender_as other sender) (group_of other g) (arrival_as other a) answer (group_of other new)
  joins_as sender g a answer new j = record { name = j.name; is_named = named_as other g a.heartbeat.member j.name j.is_named; joins = by j.name j.joins }
    where
      by : (name : Option Name) → MatchOption name (IsRefused codes.CoordinatorNotAvailable g answer new) (λ n. TakesIn g (draft_under n sender g a) a.heartbeat a.image answer new)
          → MatchOption name (IsRefused codes.CoordinatorNotAvailable (group_of other g) answer (group_of other new))
          (λ n. TakesIn (group_of other g) (draft_under n (sender_as other sender) (group_of other g) (arrival_as other a)) a.heartbeat a.image answer (group_of other new))
      by None is = (is.0, ap (group_of other) is.1)
      by (Some n) is =
          subst (λ (d : Draft). TakesIn (group_of other g) d a.heartbeat a.image answer (group_of other new)) (draft_under_as other n sender g a)
          (takes_in_as other g (draft_under n sender g a) a.heartbeat a.image answer new is)

  beats_as : (own : Option Record) (g : Group) (a : Arrival) (answer : Answer) (new : Group) → BeatsWith own g a answer new
      → BeatsWith (option_map (record_of other) own) (group_of other g) (arrival_as other a) answer (group_of other new)
  beats_as None g a answer new is = is
  beats_as (Some r) g a answer new is =
      let now = max g.clock a.moment in
      subst (λ (d : Draft). TakesIn (group_of other g) d a.heartbeat a.image answer (group_of other new)) (draft_of_beat_as other g now r a.heartbeat a.stamp)
      (takes_in_as other g (draft_of_beat g now r a.heartbeat a.stamp) a.heartbeat a.image answer new is)

  goes_away_as : (own : Option Record) (g : Group) (a : Arrival) (answer : Answer) (new : Group) → GoesAwayWith own g a answer new
      → GoesAwayWith (option_map (record_of other) own) (group_of other g) (arrival_as other a) answer (group_of other new)
  goes_away_as None g a answer new is = is
  goes_away_as (Some r) g a answer new is = (is.0, ap (group_of other) is.1 ∙ gone_away_as g a.heartbeat.member r a.stamp a.moment)

  step_of_as : (kind : Kind) (sender : Sender) (g : Group) (a : Arrival) (answer : Answer) (new : Group) → StepOf kind sender g a answer new
      → StepOf kind (sender_as other sender) (group_of other g) (arrival_as other a) answer (group_of other new)
  step_of_as Joins sender g a answer new is = joins_as sender g a answer new is
  step_of_as (Beats n) sender g a answer new is = beats_as sender.own g a answer new is
  step_of_as Leaves sender g a answer new is = (is.0, ap (group_of other) is.1 ∙ left_as g a.heartbeat.member a.stamp a.moment)
  step_of_as GoesAway sender g a answer new is = goes_away_as sender.own g a answer new is
  step_of_as MeansNothing sender g a answer new is = is

  -- a heartbeat's answer doesn't depend on stamps, but for those that its own is compared with
  pub heartbeat_as : (g : Group) (a : Arrival) (answer : Answer) (new : Group) → AgreesOn other (sender_of g.records a.heartbeat).own g.past a.heartbeat.member a.stamp
      → HeartbeatStep g a answer new → HeartbeatStep (group_of other g) (arrival_as other a) answer (group_of other new)
  heartbeat_as g a answer new agrees step =
      let kind = kind_of a.heartbeat.epoch in
      let sender = sender_of g.records a.heartbeat in
      subst (λ (s : Sender). ByVerdict (verdict_on kind s (group_of other g) a.heartbeat (other a.stamp)) (StepOf kind s (group_of other g) (arrival_as other a)) (group_of other g) answer (group_of other new))
      (sym (sender_of_as other g.records a.heartbeat))
      (subst (λ v. ByVerdict v (StepOf kind (sender_as other sender) (group_of other g) (arrival_as other a)) (group_of other g) answer (group_of other new))
      (sym (verdict_as other kind sender g a.heartbeat a.stamp agrees))
      (by_verdict_as other (verdict_on kind sender g a.heartbeat a.stamp) (StepOf kind sender g a) (StepOf kind (sender_as other sender) (group_of other g) (arrival_as other a))
      (step_of_as kind sender g a) g answer new step))

  -- ---- a tick

  due_as : (g : Group) → due (group_of other g) ≡ map (changed (record_of other)) (due g)
  due_as g =
      ap (filter (λ (m : Text × Record). is_due g.clock m.1)) (entries_changed (record_of other) g.records)
      ∙ filter_changed (record_of other) (λ (m : Text × Record). is_due g.clock m.1) (λ e. refl) (finite.entries g.records)

  without_members_as : (ms : List (Text × Record)) (g : Group) → group_of other (without_members g ms) ≡ without_members (group_of other g) (map (changed (record_of other)) ms)
  without_members_as [] g = refl
  without_members_as (m ∷ ms) g =
      without_members_as ms (without_member g m.0 m.1.stamp)
      ∙ ap (λ (x : Group). without_members x (map (changed (record_of other)) ms)) (without_member_as g m.0 m.1.stamp)

  expired_as : (g : Group) (ms : List (Text × Record)) → group_of other (expired g ms) ≡ expired (group_of other g) (map (changed (record_of other)) ms)
  expired_as g [] = refl
  expired_as g (m ∷ ms) = without_members_as (m ∷ ms) (record g { epoch = risen g.epoch })

  pub ticked_as : (g : Group) (moment : ℕ) → group_of other (ticked g moment) ≡ ticked (group_of other g) moment
  ticked_as g moment =
      expired_as (at_moment g moment) (due (at_moment g moment))
      ∙ ap (expired (at_moment (group_of other g) moment)) (sym (due_as (at_moment g moment)))

  pub removed_as : (g : Group) (moment : ℕ) → removed_by_tick (group_of other g) moment ≡ removed_by_tick g moment
  removed_as g moment = ap length (due_as (at_moment g moment)) ∙ length-map (due (at_moment g moment)) (changed (record_of other))

  -- ---- a commit

  refusal_of_member_as : (o : Option Record) (epoch : ℤ) → refusal_of_member (option_map (record_of other) o) epoch ≡ refusal_of_member o epoch
  refusal_of_member_as None epoch = refl
  refusal_of_member_as (Some r) epoch = refl

  pub refusal_as : (records : Records) (m : Text) (epoch : ℤ) → refusal_of_commit (records_of other records) m epoch ≡ refusal_of_commit records m epoch
  refusal_as records m epoch =
      let member : refusal_of_member (finite.get (records_of other records) m) epoch ≡ refusal_of_member (finite.get records m) epoch =
      ap (λ (o : Option Record). refusal_of_member o epoch) (get_changed (record_of other) records m) ∙ refusal_of_member_as (finite.get records m) epoch
      in
      λ i. if int_lt epoch (pos 0) && len_changed (record_of other) records i == 0 then None else member i

  pub commit_as : (g : Group) (c : Commit) (image : Topics) (reply : CommitReply) (new : Group) → CommitStep g c image reply new → CommitStep (group_of other g) c image reply (group_of other new)
  commit_as g c image reply new step =
      let same = sym (refusal_as g.records c.member c.epoch) in
      record {
        answers = step.answers ∙ ap (λ (o : Option Code). commit_reply o c image) same;
        stores = ap (group_of other) step.stores ∙ (λ i. record (group_of other g) { offsets = offsets_after (same i) g.offsets c image });
      }
