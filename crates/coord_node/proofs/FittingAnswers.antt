-- Every answer to a heartbeat can be spelled: a consistent group tells an epoch that fits, and assigns partitions of its view.
use Rattle.std.proofs.Common.{◌≡◌, ℕ, suc, ◌≤◌, ℤ, pos, negsuc, Bool, true, false, ◌||◌, ◌&&◌, nat_le, cond, [], ◌∷◌, ◌++◌, Option, Some, None, IfSome, max, ◌==◌, inl, refl, sym, ap, subst, ◌∙◌, arith, true≢false}
use Rattle.std.specs.Prelude.{FitsSigned}
use Rattle.std.specs.Cmp.{second_so}
use Rattle.std.specs.Option.{MatchOption}
use Rattle.std.specs.FinMap as finite
use Rattle.std.specs.Int.{w32, w64, to_be_bytes}
use Rattle.std.proofs.lemmas.Bool.{leb-false, ltb-true}
use Rattle.std.proofs.lemmas.Str.{IsUtf8-from_ascii}
use Rattle.uuid.specs.Text.{lower}
use Rattle.uuid.proofs.TextLemmas.{hyphenated_ascii}
use Rattle.flex_wire.specs.Spelling.{FitsText, FitsUuid}
use Rattle.group_types.specs.declared.epoch.Epoch.{Epoch}
use Rattle.group_types.specs.declared.epoch.Epoch.TheVariants.{At, Away}
use Rattle.group_types.specs.declared.code.Code.TheVariants as codes
use Rattle.group_types.specs.declared.partition.Partition.{Partition}
use Rattle.group_types.specs.Limits.{GREATEST_EPOCH, MOST_PARTITIONS, MOST_TOPIC_PARTITIONS}
use Rattle.group_types.specs.Text.{Text}
use Rattle.group_types.specs.Sets.{has, size}
use Rattle.group_types.specs.Partition.{Partitions}
use Rattle.group_types.specs.Topics.{Topics}
use Rattle.group_types.specs.Images.{AreImageTopics}
use Rattle.group_types.specs.MemberId.{made_id}
use Rattle.group_types.specs.Owners.{IsIndex, share_of}
use Rattle.group_types.specs.Request.{Heartbeat, Kind, Joins, Beats, Leaves, GoesAway, MeansNothing, LEAVES_AT, GOES_AWAY_AT, is_full, kind_of, reported}
use Rattle.group_types.specs.Group.{Group, Record, held}
use Rattle.group_types.specs.Settle.{may_settle, settled}
use Rattle.group_types.specs.Join.{IsNamed, Name, name_of_serial}
use Rattle.group_types.specs.Leave.{last_epoch, last_epoch_at}
use Rattle.group_types.specs.Renewal.{Renews, changed_if, is_subscribed, view_for}
use Rattle.group_types.specs.Checks.{Verdict, Accepted, Refused, Overtaken, Member, Sender, sender_of, verdict_on}
use Rattle.group_types.specs.HeartbeatStep.{Answer, Arrival, BeatsWith, ByVerdict, Closes, Draft, GoesAwayWith, HeartbeatStep, IsRefused, JoinsAs, Replied, Reply, Stages, StepOf, TakesIn, acceptance, assignment_of, draft_of_join, draft_under, epoch_number, farewell, is_news, refusal, shown}
use Rattle.group_types.specs.Sound.{IsOfView}
use Rattle.group_types.proofs.Consistent.{IsConsistent}
use Rattle.group_types.proofs.Drafts.{IsReady, beat_is_ready, join_is_ready}
use Rattle.group_types.proofs.Images.{retained-AreImageTopics}
use Rattle.group_types.proofs.KeptViews.{changed_view, join_view, renewed_view, settled_view}
use Rattle.group_types.proofs.Lookups.{some_is}
use Rattle.group_types.proofs.MadeIds.{length-made_id}
use Rattle.group_types.proofs.Orders.{partition_cmp_total}
use Rattle.group_types.proofs.Renewals.{changed_is_consistent, renewed_is_consistent}
use Rattle.group_types.proofs.Senders.{own_is}
use Rattle.group_types.proofs.SetLemmas.{has-common}
use Rattle.group_types.proofs.Settlings.{settled_is_consistent}
use Rattle.group_core.proofs.FewPartitions.{few_shown, share_of_view}

-- ---- what can be spelled

-- a partition's id and index have a spelling
abbrev pub IsWritten : Partition → Type 0
IsWritten p = FitsUuid p.topic × FitsSigned w32 p.index

-- so have all of a set, and there are no more of them than an image may have
pub record AreWritten (set : Partitions) : Type 0 where
  pub few : size set ≤ MOST_PARTITIONS
  pub each : (p : Partition) → has set p ≡ true → IsWritten p

-- and what a reply tells beside its code
pub record IsTold (r : Reply) : Type 0 where
  pub member : IfSome r.member FitsText
  pub epoch : FitsSigned w32 r.epoch
  pub interval : FitsSigned w32 r.interval
  pub assignment : IfSome r.assignment AreWritten

abbrev pub IsToldIn : Answer → Type 0
IsToldIn (Replied r) = IsTold r
IsToldIn Closes = Unit {0}

pub refused_told : (code : _) → IsTold (refusal code)
refused_told code = record { member = tt; epoch = record { sfits = omega arith }; interval = record { sfits = omega arith }; assignment = tt }

leaving_told : (m : Text) → FitsText m → IsTold (farewell m LEAVES_AT)
leaving_told m fits = record { member = fits; epoch = record { sfits = omega arith }; interval = record { sfits = omega arith }; assignment = tt }

going_told : (m : Text) → FitsText m → IsTold (farewell m GOES_AWAY_AT)
going_told m fits = record { member = fits; epoch = record { sfits = omega arith }; interval = record { sfits = omega arith }; assignment = tt }

by_verdict : (v : Verdict) (Accepts : Answer → Group → Type 0) (g : Group) (a : Answer) (n : Group) → (v ≡ Accepted → Accepts a n → IsToldIn a) → ByVerdict v Accepts g a n → IsToldIn a
by_verdict Accepted Accepts g a n accepts is = accepts refl is
by_verdict (Refused code) Accepts g a n accepts is = subst IsToldIn (sym is.0) (refused_told code)
by_verdict Overtaken Accepts g a n accepts is = subst IsToldIn (sym is.0) tt

-- ---- an acceptance

epoch_told : (e : Epoch) (r : Record) → r.epoch ≡ e → last_epoch r ≤ GREATEST_EPOCH → FitsSigned w32 (epoch_number e)
epoch_told Away r is low = record { sfits = omega arith }
epoch_told (At e) r is low =
    let same : last_epoch r ≡ e = ap (λ x. last_epoch_at x r) is in
    record { sfits = omega arith }

assigned_told : (present : Bool) (set : Partitions) → AreWritten set → IfSome (assignment_of present set) AreWritten
assigned_told true set are = are
assigned_told false set are = tt

index_told : (z : ℤ) (count : ℕ) → IsIndex z count → count ≤ MOST_TOPIC_PARTITIONS → FitsSigned w32 z
index_told (pos i) count is few = let below = ltb-true i count is in record { sfits = omega arith }
index_told (negsuc i) count is few = absurd (true≢false (sym is))

shown_told : (g : Group) → IsConsistent g → AreImageTopics g.view → (m : Text) → AreWritten (shown g m)
shown_told g sound topics m =
    let of : (p : Partition) (n : Text) → finite.get g.target p ≡ Some n → IsOfView g.view p = λ p n owns. sound.owned n p owns in
    record {
      few = few_shown g.view g.target m (held g.grants m) topics of;
      each = λ p there.
          let at = share_of_view g.view g.target m of p (second_so (has (held g.grants m) p) _ (sym (has-common partition_cmp_total (held g.grants m) (share_of g.target m) p) ∙ there)) in
          let id : FitsUuid p.topic = subst FitsUuid (sym at.same_id) (topics.ids at.name at.topic at.is_topic) in
          (id, index_told p.index at.topic.count at.index (topics.counts at.name at.topic at.is_topic).1);
    }

replies_told : (g : Group) → IsConsistent g → AreImageTopics g.view → (m : Text) (r : Record) → finite.get g.records m ≡ Some r → FitsText m
    → (full : Bool) → IsToldIn (Replied (acceptance m r (assignment_of (full || is_news r.sent (shown g m)) (shown g m))))
replies_told g sound topics m r kept fits full =
    let low = sound.epochs m r kept in
    let target = sound.target_epoch in
    let most = sound.epoch in
    record {
      member = fits;
      epoch = epoch_told r.epoch r refl (omega arith);
      interval = record { sfits = omega arith };
      assignment = assigned_told (full || is_news r.sent (shown g m)) (shown g m) (shown_told g sound topics m);
    }

-- ---- the settling, the renewal and the change

settled_topics : (g : Group) (m : Text) (owned : Option Partitions) (now : ℕ) → AreImageTopics g.view → AreImageTopics (settled g m owned now).view
settled_topics g m owned now topics = subst AreImageTopics (sym (settled_view (may_settle g.grants m _ owned) g m (finite.get g.records m) now)) topics

settles_told : (changed : Group) (d : Draft) (q : Heartbeat) (a : Answer) (n : Group) (stages : Stages changed d q a n) → IsConsistent stages.renewed → AreImageTopics stages.renewed.view → FitsText d.id → IsToldIn a
settles_told changed d q a n stages sound topics fits =
    let renewed : Group = stages.renewed in
    let is_sound : IsConsistent stages.settled = subst IsConsistent (sym stages.settles) (settled_is_consistent renewed sound d.id (reported q) renewed.clock) in
    let of_node : AreImageTopics stages.settled.view = subst (λ (g : Group). AreImageTopics g.view) (sym stages.settles) (settled_topics renewed d.id (reported q) renewed.clock topics) in
    subst IsToldIn (sym (stages.answers ∙ ap (λ o. Replied (acceptance d.id stages.kept o)) stages.tells))
    (replies_told stages.settled is_sound of_node d.id stages.kept stages.is_kept fits (is_full q))

module _ (g : Group) (sound : IsConsistent g) (d : Draft) (ready : IsReady g d) (fits : FitsText d.id) (same : d.group.view ≡ g.view) (stored : AreImageTopics g.view)
    (q : Heartbeat) (image : Topics) (present : AreImageTopics image) (a : Answer) (n : Group) where
  abbrev View : Topics
  View = view_for image d.group.records

  known : (change : Bool) → AreImageTopics (changed_if change d.group View).view
  known change = changed_view change d.group View (subst AreImageTopics (sym same) stored) (retained-AreImageTopics image (is_subscribed d.group.records) present)

  then_known : (change : Bool) (renewed : Group) → Renews (changed_if change d.group View) renewed → AreImageTopics renewed.view
  then_known change renewed renews =
      let changed : Group = changed_if change d.group View in
      subst AreImageTopics (sym (renewed_view (changed.epoch == changed.target_epoch) changed renewed renews)) (known change)

  goes_told : (change : Bool) → (change && nat_le GREATEST_EPOCH g.epoch) ≡ false → Stages (changed_if change d.group View) d q a n → IsToldIn a
  goes_told false room stages =
      settles_told d.group d q a n stages (renewed_is_consistent d.group ready.sound stages.renewed stages.renews) (then_known false stages.renewed stages.renews) fits
  goes_told true room stages =
      let below = leb-false GREATEST_EPOCH g.epoch room in
      let epochs = ready.epoch in
      let target = ready.sound.target_epoch in
      settles_told (changed_if true d.group View) d q a n stages
      (changed_is_consistent d.group ready.sound (suc d.group.epoch) View stages.renewed (omega (arith, target)) (omega (arith, below, epochs)) stages.renews)
      (then_known true stages.renewed stages.renews) fits

  taken_told : TakesIn g d q image a n → IsToldIn a
  taken_told takes = by (takes.change && nat_le GREATEST_EPOCH g.epoch) refl takes.step
    where
      by : (b : Bool) → (takes.change && nat_le GREATEST_EPOCH g.epoch) ≡ b
          → ByVerdict (cond b (Refused codes.CoordinatorNotAvailable) Accepted) (Stages (changed_if takes.change d.group View) d q) g a n → IsToldIn a
      by true stuck is = subst IsToldIn (sym is.0) (refused_told codes.CoordinatorNotAvailable)
      by false room is = goes_told takes.change room is

-- ---- by the kind of heartbeat

pub made_fits : (salt serial : ℕ) → FitsText (made_id salt serial)
made_fits salt serial =
    record {
      length = let is = length-made_id salt serial in omega (arith, is);
      utf8 = IsUtf8-from_ascii (made_id salt serial) (hyphenated_ascii lower (to_be_bytes w64 salt ++ to_be_bytes w64 serial) (inl refl));
    }

pub name_fits : (g : Group) (member : Text) (name : Name) → IsNamed g member (Some name) → FitsText member → FitsText name.id
name_fits g [] name (Some serial, is_serial, is) fits =
    let id : name.id ≡ made_id g.salt serial = ap (λ (x : Name). x.id) (some_is name (name_of_serial g serial) is) in
    subst FitsText (sym id) (made_fits g.salt serial)
name_fits g [] name (None, is_serial, is) fits = cc
name_fits g (c ∷ m) name is fits =
    let id : name.id ≡ c ∷ m = ap (λ (x : Name). x.id) (some_is name _ is) in
    subst FitsText (sym id) fits

-- whoever joins, the reply names the id under which it does, and the draft has the group's view
join_names : (g : Group) (serial now : ℕ) (id : Text) (own : Option Record) (other : Option Member) (q : Heartbeat) (h : Arrival) → FitsText id
    → FitsText (draft_of_join (record g { serial = serial }) now id own other q h.stamp).id
join_names g serial now id (Some r) other q h fits = fits
join_names g serial now id None None q h fits = fits
join_names g serial now id None (Some old) q h fits = fits

-- a check that would refuse doesn't apply
pub passed : (b : Bool) (v rest : Verdict) → (v ≡ Accepted → ⊥) → cond b v rest ≡ Accepted → (b ≡ false) × (rest ≡ Accepted)
passed true v rest fails is = absurd (fails is)
passed false v rest fails is = (refl, is)

pub refuses : (code : _) → Refused code ≡ Accepted → ⊥
refuses code is = cc

pub overtakes : Overtaken ≡ Accepted → ⊥
overtakes is = cc

module _ (g : Group) (sound : IsConsistent g) (stored : AreImageTopics g.view) (h : Arrival) (present : AreImageTopics h.image) (fits : FitsText h.heartbeat.member) (a : Answer) (n : Group) where
  abbrev TheSender : Sender
  TheSender = sender_of g.records h.heartbeat

  joins_told : verdict_on Joins TheSender g h.heartbeat h.stamp ≡ Accepted → JoinsAs TheSender g h a n → IsToldIn a
  joins_told accepted joins = by joins.name joins.is_named joins.joins
    where
      by : (o : Option Name) → IsNamed g h.heartbeat.member o → MatchOption o (IsRefused codes.CoordinatorNotAvailable g a n) (λ x. TakesIn g (draft_under x TheSender g h) h.heartbeat h.image a n) → IsToldIn a
      by None named is = subst IsToldIn (sym is.0) (refused_told codes.CoordinatorNotAvailable)
      by (Some name) named is =
          let valid = passed _ _ _ (refuses codes.InvalidRequest) accepted in
          let supported = passed _ _ _ (refuses codes.UnsupportedAssignor) valid.1 in
          let in_time = passed _ _ _ overtakes supported.1 in
          let released = passed _ _ _ (refuses codes.UnreleasedInstanceId) in_time.1 in
          let room = passed _ _ _ (refuses codes.GroupMaxSizeReached) released.1 in
          taken_told g sound _ (join_is_ready g sound (max g.clock h.moment) h.heartbeat h.stamp name named TheSender.own refl TheSender.other refl released.0 room.0)
          (join_names g name.next_serial (max g.clock h.moment) name.id TheSender.own TheSender.other h.heartbeat h (name_fits g h.heartbeat.member name named fits))
          (join_view g name.next_serial (max g.clock h.moment) name.id TheSender.own TheSender.other h.heartbeat h) stored h.heartbeat h.image present a n is

  beats_told : (own : Option Record) → TheSender.own ≡ own → BeatsWith own g h a n → IsToldIn a
  beats_told None none is = absurd is
  beats_told (Some r) own is =
      taken_told g sound _ (beat_is_ready g sound (max g.clock h.moment) r h.heartbeat h.stamp (own_is g.records h.heartbeat.member r own)) fits refl stored h.heartbeat h.image present a n is

  goes_away_told : (own : Option Record) → GoesAwayWith own g h a n → IsToldIn a
  goes_away_told None is = absurd is
  goes_away_told (Some r) is = subst IsToldIn (sym is.0) (going_told h.heartbeat.member fits)

  step_told : (kind : Kind) → verdict_on kind TheSender g h.heartbeat h.stamp ≡ Accepted → StepOf kind TheSender g h a n → IsToldIn a
  step_told Joins accepted is = joins_told accepted is
  step_told (Beats e) accepted is = beats_told TheSender.own refl is
  step_told Leaves accepted is = subst IsToldIn (sym is.0) (leaving_told h.heartbeat.member fits)
  step_told GoesAway accepted is = goes_away_told TheSender.own is
  step_told MeansNothing accepted is = absurd is

  pub is_told : HeartbeatStep g h a n → IsToldIn a
  is_told is = by_verdict (verdict_on (kind_of h.heartbeat.epoch) TheSender g h.heartbeat h.stamp) (StepOf (kind_of h.heartbeat.epoch) TheSender g h) g a n (step_told (kind_of h.heartbeat.epoch)) is
