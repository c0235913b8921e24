-- Each group of a node goes on to have the node's salt.
use Rattle.std.proofs.Common.{◌≡◌, inl, inr, ℕ, ◌==◌, Bool, true, false, cond, max, List, [], ◌∷◌, map, Option, Some, None, MatchOption, refl, sym, ap, subst, ◌∙◌}
use Rattle.std.specs.FinMap as finite
use Rattle.std.specs.FinMap.{find}
use Rattle.std.specs.Ordering.{eq_by_cmp}
use Rattle.kip_msgs.specs.Values.{RequestValue, heartbeat_request, commit_request}
use Rattle.group_types.specs.declared.code.Code.TheVariants.{CoordinatorNotAvailable}
use Rattle.group_types.specs.declared.stamp.Stamp.{Stamp}
use Rattle.group_types.specs.Text.{Text, text_cmp}
use Rattle.group_types.specs.Topics.{Topics}
use Rattle.group_types.specs.Group.{Record, Group, new_group}
use Rattle.group_types.specs.Join.{Name}
use Rattle.group_types.specs.Leave.{risen, without_member}
use Rattle.group_types.specs.Request.{Heartbeat, Kind, Joins, Beats, Leaves, GoesAway, MeansNothing, kind_of, reported}
use Rattle.group_types.specs.Renewal.{RenewsWhere, changed_if, view_for}
use Rattle.group_types.specs.Settle.{may_settle, settled_by}
use Rattle.group_types.specs.Tick.{at_moment, due, expired, ticked, without_members}
use Rattle.group_types.specs.Commit.{Commit, CommitReply}
use Rattle.group_types.specs.Checks.{Verdict, Accepted, Refused, Overtaken, Member, Sender, sender_of, verdict_on}
use Rattle.group_types.specs.HeartbeatStep as group
use Rattle.group_types.specs.HeartbeatStep.{Arrival, BeatsWith, ByVerdict, Draft, GoesAwayWith, HeartbeatStep, IsRefused, Stages, StepOf, TakesIn, draft_of_beat, draft_of_join, draft_under, verdict_on_change}
use Rattle.group_types.proofs.Lookups.{Tie, ties, differs, tie, not_none, some_is, get-inserted, get-insert_other}
use Rattle.group_types.proofs.Orders.{text_cmp_total}
use Rattle.group_epochs.specs.Request.{arrival_of, commit_of}
use Rattle.coord_node.specs.Coordinator.{Coordinator, Event, Frame, Tick, Image, Answer, opening}
use Rattle.coord_node.specs.Steps.{CommitAt, HeartbeatAt, Makes, MakesBy, RequestStep, Run, Step, all_ticked, has_room, is_success, with_group}
use Rattle.node_laws.proofs.OtherGroups.{other_groups_stay}
use Rattle.node_laws.specs.Salts.{GroupsHaveTheNodesSalt, HasSalt}

-- ---- a group

settled_salt : (may : Bool) (g : Group) (m : Text) (o : Option Record) (now : ℕ) → (settled_by may g m o now).salt ≡ g.salt
settled_salt may g m None now = refl
settled_salt may g m (Some r) now = refl

renewed_salt : (b : Bool) (g renewed : Group) → RenewsWhere b g renewed → renewed.salt ≡ g.salt
renewed_salt true g renewed is = ap (λ (x : Group). x.salt) is
renewed_salt false g renewed (target, is_target, is) = ap (λ (x : Group). x.salt) is

changed_salt : (change : Bool) (g : Group) (view : Topics) → (changed_if change g view).salt ≡ g.salt
changed_salt true g view = refl
changed_salt false g view = refl

join_salt : (g : Group) (serial now : ℕ) (id : Text) (own : Option Record) (other : Option Member) (q : Heartbeat) (stamp : Stamp)
    → (draft_of_join (record g { serial = serial }) now id own other q stamp).group.salt ≡ g.salt
join_salt g serial now id (Some r) other q stamp = refl
join_salt g serial now id None None q stamp = refl
join_salt g serial now id None (Some old) q stamp = refl

module _ (g : Group) (a : Arrival) (answer : group.Answer) (new : Group) where
  same : new ≡ g → new.salt ≡ g.salt
  same is = ap (λ (x : Group). x.salt) is

  by_verdict : (v : Verdict) (Accepts : group.Answer → Group → Type 0) → (Accepts answer new → new.salt ≡ g.salt) → ByVerdict v Accepts g answer new → new.salt ≡ g.salt
  by_verdict Accepted Accepts accepts is = accepts is
  by_verdict (Refused code) Accepts accepts is = same is.1
  by_verdict Overtaken Accepts accepts is = same is.1

  takes_in : (d : Draft) → d.group.salt ≡ g.salt → TakesIn g d a.heartbeat a.image answer new → new.salt ≡ g.salt
  takes_in d is_salt is =
      let changed : Group = changed_if is.change d.group (view_for a.image d.group.records) in
      by_verdict (verdict_on_change is.change g.epoch) (Stages changed d a.heartbeat)
      (λ stages.
      let renewed : Group = stages.renewed in
      ap (λ (x : Group). x.salt) stages.leaves ∙ ap (λ (x : Group). x.salt) stages.settles
      ∙ settled_salt (may_settle renewed.grants d.id _ (reported a.heartbeat)) renewed d.id (finite.get renewed.records d.id) renewed.clock
      ∙ renewed_salt (changed.epoch == changed.target_epoch) changed renewed stages.renews
      ∙ changed_salt is.change d.group (view_for a.image d.group.records) ∙ is_salt)
      is.step

  joins : (o : Option Name) (sender : Sender)
      → MatchOption o (IsRefused CoordinatorNotAvailable g answer new) (λ name. TakesIn g (draft_under name sender g a) a.heartbeat a.image answer new) → new.salt ≡ g.salt
  joins None sender is = same is.1
  joins (Some name) sender is =
      takes_in (draft_under name sender g a) (join_salt g name.next_serial (max g.clock a.moment) name.id sender.own sender.other a.heartbeat a.stamp) is

  beats : (own : Option Record) → BeatsWith own g a answer new → new.salt ≡ g.salt
  beats None is = absurd is
  beats (Some r) is = takes_in (draft_of_beat g (max g.clock a.moment) r a.heartbeat a.stamp) refl is

  goes_away : (own : Option Record) → GoesAwayWith own g a answer new → new.salt ≡ g.salt
  goes_away None is = absurd is
  goes_away (Some r) is = ap (λ (x : Group). x.salt) is.1

  step_of : (kind : Kind) (sender : Sender) → StepOf kind sender g a answer new → new.salt ≡ g.salt
  step_of Joins sender is = joins is.name sender is.joins
  step_of (Beats e) sender is = beats sender.own is
  step_of Leaves sender is = ap (λ (x : Group). x.salt) is.1
  step_of GoesAway sender is = goes_away sender.own is
  step_of MeansNothing sender is = absurd is

  heartbeat_salt : HeartbeatStep g a answer new → new.salt ≡ g.salt
  heartbeat_salt is =
      let kind : Kind = kind_of a.heartbeat.epoch in
      let sender : Sender = sender_of g.records a.heartbeat in
      by_verdict (verdict_on kind sender g a.heartbeat a.stamp) (StepOf kind sender g a) (step_of kind sender) is

without_members_salt : (g : Group) (ms : List (Text × Record)) → (without_members g ms).salt ≡ g.salt
without_members_salt g [] = refl
without_members_salt g (m ∷ ms) = without_members_salt (without_member g m.0 m.1.stamp) ms

expired_salt : (g : Group) (ms : List (Text × Record)) → (expired g ms).salt ≡ g.salt
expired_salt g [] = refl
expired_salt g (m ∷ ms) = without_members_salt (record g { epoch = risen g.epoch }) (m ∷ ms)

ticked_salt : (g : Group) (moment : ℕ) → (ticked g moment).salt ≡ g.salt
ticked_salt g moment = expired_salt (at_moment g moment) (due (at_moment g moment))

-- ---- a node whose groups have its salt

abbrev Salted : Coordinator → Type 0
Salted c = HasSalt c.salt c

put_in : (c : Coordinator) → Salted c → (name : Text) (g : Group) → g.salt ≡ c.salt → Salted (with_group c name g)
put_in c salted name g is_salted q x there = by (tie q name)
  where
    by : Tie q name → x.salt ≡ c.salt
    by (ties same) =
        ap (λ (y : Group). y.salt) (some_is x g (sym there ∙ ap (finite.get (finite.insert c.groups name g)) same ∙ get-inserted c.groups name g)) ∙ is_salted
    by (differs other apart) = salted q x (sym (get-insert_other c.groups name g q apart) ∙ there)

module _ (c new : Coordinator) (salted : Salted c) where
  unchanged : new ≡ c → Salted new
  unchanged is = subst Salted (sym is) salted

  put : (name : Text) (g : Group) → g.salt ≡ c.salt → new ≡ with_group c name g → Salted new
  put name g is_salted is = subst Salted (sym is) (put_in c salted name g is_salted)

  made : (success room : Bool) (name : Text) (g : Group) → g.salt ≡ c.salt → (reply : group.Reply) (answer : group.Answer)
      → Makes success room c (record { name = name; left = g; reply = reply }) answer new → Salted new
  made true true name g is_salted reply answer is = put name g is_salted is.1
  made true false name g is_salted reply answer is = unchanged is.1
  made false room name g is_salted reply answer is = unchanged is.1

  made_by : (given answer : group.Answer) (name : Text) (g : Group) → g.salt ≡ c.salt → MakesBy given c name g answer new → Salted new
  made_by (group.Replied reply) answer name g is_salted is = made (is_success reply.code) (has_room c) name g is_salted reply answer is
  made_by group.Closes answer name g is_salted is = unchanged is.1

  beaten : (there : Option Group) (a : Arrival) (answer : group.Answer) → finite.get c.groups a.heartbeat.group ≡ there → HeartbeatAt there c a answer new → Salted new
  beaten None a answer absent (given, left, step, makes) =
      made_by given answer a.heartbeat.group left (heartbeat_salt (new_group c.salt) a given left step) makes
  beaten (Some g) a answer present (after, step, leaves) =
      put a.heartbeat.group after (heartbeat_salt g a answer after step ∙ salted a.heartbeat.group g present) leaves

  committed : (there : Option Group) (r : Commit) (reply : CommitReply) → finite.get c.groups r.group ≡ there → CommitAt there c r reply new → Salted new
  committed None r reply absent is = unchanged is.1
  committed (Some g) r reply present (after, step, leaves) = put r.group after (ap (λ (x : Group). x.salt) step.stores ∙ salted r.group g present) leaves

  requested : (v : RequestValue) (stamp : Stamp) (moment : ℕ) (answer : Answer) → RequestStep c v stamp moment answer new → Salted new
  requested (heartbeat_request header v) stamp moment answer (given, step, sends) =
      beaten (finite.get c.groups v.group_id) (arrival_of v stamp moment c.image) given refl step
  requested (commit_request header v) stamp moment answer (reply, step, sends) = committed (finite.get c.groups v.group_id) (commit_of v) reply refl step

found_ticked : (moment salt : ℕ) (es : List (Text × Group)) (name : Text) (g : Group) → ((x : Group) → find text_cmp name es ≡ Some x → x.salt ≡ salt)
    → find text_cmp name (map (λ (e : Text × Group). (e.0, ticked e.1 moment)) es) ≡ Some g → g.salt ≡ salt
found_ticked moment salt [] name g salted is = absurd (not_none g is)
found_ticked moment salt (e ∷ es) name g salted is = by (eq_by_cmp text_cmp name e.0) (found_ticked moment salt es name g) salted is
  where
    by : (b : Bool) → (((x : Group) → find text_cmp name es ≡ Some x → x.salt ≡ salt) → find text_cmp name (map (λ (e : Text × Group). (e.0, ticked e.1 moment)) es) ≡ Some g → g.salt ≡ salt)
        → ((x : Group) → cond b (Some e.1) (find text_cmp name es) ≡ Some x → x.salt ≡ salt)
        → cond b (Some (ticked e.1 moment)) (find text_cmp name (map (λ (e : Text × Group). (e.0, ticked e.1 moment)) es)) ≡ Some g → g.salt ≡ salt
    by true later before is = ap (λ (x : Group). x.salt) (sym (some_is (ticked e.1 moment) g is)) ∙ ticked_salt e.1 moment ∙ before e.1 refl
    by false later before is = later before is

after_tick : (c : Coordinator) → Salted c → (moment : ℕ) → Salted (record c { groups = all_ticked c.groups moment })
after_tick c salted moment name g there =
    found_ticked moment c.salt (finite.entries c.groups) name g (λ x is. salted name x (finite.get-entries c.groups name ∙ is))
    (sym (finite.get-from_entries text_cmp_total (map (λ (e : Text × Group). (e.0, ticked e.1 moment)) (finite.entries c.groups)) name) ∙ there)

step_salted : (c : Coordinator) → Salted c → (event : Event) (answer : Answer) (new : Coordinator) → Step c event answer new → Salted new
step_salted c salted (Frame body stamp moment) answer new (inl (v, is, step)) = requested c new salted v stamp moment answer step
step_salted c salted (Frame body stamp moment) answer new (inr (none, closes, same)) = unchanged c new salted same
step_salted c salted (Tick moment) answer new (done, is) = subst Salted (sym is) (after_tick c salted moment)
step_salted c salted (Image topics) answer new (done, is, image) = subst Salted (sym is) salted

-- ---- and its salt stays

node_salt : (c : Coordinator) (event : Event) (answer : Answer) (new : Coordinator) → Step c event answer new → new.salt ≡ c.salt
node_salt c (Frame body stamp moment) answer new step = (other_groups_stay c body stamp moment answer new step).salt
node_salt c (Tick moment) answer new (done, is) = ap (λ (x : Coordinator). x.salt) is
node_salt c (Image topics) answer new (done, is, image) = ap (λ (x : Coordinator). x.salt) is

run_salted : (events : List Event) (answers : List Answer) (c new : Coordinator) → Salted c → Run c events answers new → Salted new × (new.salt ≡ c.salt)
run_salted [] [] c new salted is = (subst Salted (sym is) salted, ap (λ (x : Coordinator). x.salt) is)
run_salted [] (answer ∷ answers) c new salted never = absurd never
run_salted (event ∷ events) [] c new salted never = absurd never
run_salted (event ∷ events) (answer ∷ answers) c new salted (middle, step, run) =
    let rest = run_salted events answers middle new (step_salted c salted event answer middle step) run in (rest.0, rest.1 ∙ node_salt c event answer middle step)

pub groups_have_the_nodes_salt : GroupsHaveTheNodesSalt
groups_have_the_nodes_salt salt events answers c run =
    let is = run_salted events answers (opening salt) c (λ name g there. absurd (not_none g (sym (finite.get-empty text_cmp name) ∙ there))) run in subst (λ s. HasSalt s c) is.1 is.0
