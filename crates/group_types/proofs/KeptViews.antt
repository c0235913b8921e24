-- The stored view goes on to be of an image: it is the former one, or what a heartbeat's image has of it.
use Rattle.std.proofs.Common.{◌≡◌, ℕ, Bool, true, false, List, [], ◌∷◌, Option, Some, None, ◌==◌, max, refl, sym, ap, subst}
use Rattle.std.specs.FinMap as finite
use Rattle.std.specs.Option.{MatchOption}
use Rattle.group_types.specs.declared.code.Code.TheVariants.{CoordinatorNotAvailable}
use Rattle.group_types.specs.Text.{Text}
use Rattle.group_types.specs.Topics.{Topics}
use Rattle.group_types.specs.Images.{AreImageTopics}
use Rattle.group_types.specs.Request.{Heartbeat, Kind, Joins, Beats, Leaves, GoesAway, MeansNothing, kind_of, reported}
use Rattle.group_types.specs.Group.{Group, Record}
use Rattle.group_types.specs.Leave.{risen, without_member}
use Rattle.group_types.specs.Settle.{may_settle, settled_by}
use Rattle.group_types.specs.Tick.{at_moment, due, expired, ticked, without_members}
use Rattle.group_types.specs.Renewal.{RenewsWhere, changed_if, is_subscribed, view_for}
use Rattle.group_types.specs.Join.{Name}
use Rattle.group_types.specs.Checks.{Member, Sender, Verdict, Accepted, Refused, Overtaken, sender_of, verdict_on}
use Rattle.group_types.specs.HeartbeatStep.{Answer, Arrival, BeatsWith, ByVerdict, Draft, GoesAwayWith, HeartbeatStep, IsRefused, Stages, StepOf, TakesIn, draft_of_beat, draft_of_join, draft_under, verdict_on_change}
use Rattle.group_types.proofs.Images.{retained-AreImageTopics}

abbrev IsOver : Group → Type 0
IsOver g = AreImageTopics g.view

-- ---- the stages

pub settled_view : (may : Bool) (g : Group) (m : Text) (o : Option Record) (now : ℕ) → (settled_by may g m o now).view ≡ g.view
settled_view may g m None now = refl
settled_view may g m (Some r) now = refl

pub renewed_view : (b : Bool) (g renewed : Group) → RenewsWhere b g renewed → renewed.view ≡ g.view
renewed_view true g renewed is = ap (λ (x : Group). x.view) is
renewed_view false g renewed (target, is_target, is) = ap (λ (x : Group). x.view) is

pub changed_view : (change : Bool) (g : Group) (view : Topics) → AreImageTopics g.view → AreImageTopics view → AreImageTopics (changed_if change g view).view
changed_view true g view stored present = present
changed_view false g view stored present = stored

-- whoever joins, the draft has the group's view
pub join_view : (g : Group) (serial now : ℕ) (id : Text) (own : Option Record) (other : Option Member) (q : Heartbeat) (a : Arrival)
    → (draft_of_join (record g { serial = serial }) now id own other q a.stamp).group.view ≡ g.view
join_view g serial now id (Some r) other q a = refl
join_view g serial now id None None q a = refl
join_view g serial now id None (Some old) q a = refl

stages_over : (changed : Group) (d : Draft) (q : Heartbeat) (answer : Answer) (new : Group) (stages : Stages changed d q answer new) → IsOver stages.renewed → IsOver new
stages_over changed d q answer new stages over =
    let renewed : Group = stages.renewed in
    subst IsOver (sym stages.leaves) (subst IsOver (sym stages.settles)
    (subst AreImageTopics (sym (settled_view (may_settle renewed.grants d.id _ (reported q)) renewed d.id (finite.get renewed.records d.id) renewed.clock)) over))

-- ---- a heartbeat

by_verdict : (v : Verdict) (Accepts : Answer → Group → Type 0) (g : Group) (answer : Answer) (new : Group) → IsOver g → (Accepts answer new → IsOver new) → ByVerdict v Accepts g answer new → IsOver new
by_verdict Accepted Accepts g answer new over accepts is = accepts is
by_verdict (Refused code) Accepts g answer new over accepts is = subst IsOver (sym is.1) over
by_verdict Overtaken Accepts g answer new over accepts is = subst IsOver (sym is.1) over

takes_in : (g : Group) (d : Draft) (q : Heartbeat) (image : Topics) (answer : Answer) (new : Group) → IsOver g → d.group.view ≡ g.view → AreImageTopics image → TakesIn g d q image answer new → IsOver new
takes_in g d q image answer new over same present is =
    let changed : Group = changed_if is.change d.group (view_for image d.group.records) in
    let known : AreImageTopics changed.view = changed_view is.change d.group (view_for image d.group.records) (subst AreImageTopics (sym same) over) (retained-AreImageTopics image (is_subscribed d.group.records) present) in
    by_verdict (verdict_on_change is.change g.epoch) (Stages changed d q) g answer new over
    (λ stages. stages_over changed d q answer new stages (subst AreImageTopics (sym (renewed_view (changed.epoch == changed.target_epoch) changed stages.renewed stages.renews)) known)) is.step

joins : (o : Option Name) (sender : Sender) (g : Group) (a : Arrival) (answer : Answer) (new : Group) → IsOver g → AreImageTopics a.image
    → MatchOption o (IsRefused CoordinatorNotAvailable g answer new) (λ name. TakesIn g (draft_under name sender g a) a.heartbeat a.image answer new) → IsOver new
joins None sender g a answer new over present is = subst IsOver (sym is.1) over
joins (Some name) sender g a answer new over present is =
    takes_in g (draft_under name sender g a) a.heartbeat a.image answer new over
    (join_view g name.next_serial (max g.clock a.moment) name.id sender.own sender.other a.heartbeat a) present is

beats : (own : Option Record) (g : Group) (a : Arrival) (answer : Answer) (new : Group) → IsOver g → AreImageTopics a.image → BeatsWith own g a answer new → IsOver new
beats None g a answer new over present is = absurd is
beats (Some r) g a answer new over present is = takes_in g (draft_of_beat g (max g.clock a.moment) r a.heartbeat a.stamp) a.heartbeat a.image answer new over refl present is

goes_away : (own : Option Record) (g : Group) (a : Arrival) (answer : Answer) (new : Group) → IsOver g → GoesAwayWith own g a answer new → IsOver new
goes_away None g a answer new over is = absurd is
goes_away (Some r) g a answer new over is = subst IsOver (sym is.1) over

step_of : (kind : Kind) (sender : Sender) (g : Group) (a : Arrival) (answer : Answer) (new : Group) → IsOver g → AreImageTopics a.image → StepOf kind sender g a answer new → IsOver new
step_of Joins sender g a answer new over present is = joins is.name sender g a answer new over present is.joins
step_of (Beats e) sender g a answer new over present is = beats sender.own g a answer new over present is
step_of Leaves sender g a answer new over present is = subst IsOver (sym is.1) over
step_of GoesAway sender g a answer new over present is = goes_away sender.own g a answer new over is
step_of MeansNothing sender g a answer new over present is = absurd is

pub heartbeat_view : (g : Group) (a : Arrival) (answer : Answer) (new : Group) → AreImageTopics g.view → AreImageTopics a.image → HeartbeatStep g a answer new → AreImageTopics new.view
heartbeat_view g a answer new over present is =
    let kind : Kind = kind_of a.heartbeat.epoch in
    let sender : Sender = sender_of g.records a.heartbeat in
    by_verdict (verdict_on kind sender g a.heartbeat a.stamp) (StepOf kind sender g a) g answer new over (step_of kind sender g a answer new over present) is

-- ---- a tick

removed : (g : Group) (ms : List (Text × Record)) → (without_members g ms).view ≡ g.view
removed g [] = refl
removed g (m ∷ ms) = removed (without_member g m.0 m.1.stamp) ms

expires : (g : Group) (ms : List (Text × Record)) → (expired g ms).view ≡ g.view
expires g [] = refl
expires g (m ∷ ms) = removed (record g { epoch = risen g.epoch }) (m ∷ ms)

pub ticked_view : (g : Group) (moment : ℕ) → (ticked g moment).view ≡ g.view
ticked_view g moment = expires (at_moment g moment) (due (at_moment g moment))
