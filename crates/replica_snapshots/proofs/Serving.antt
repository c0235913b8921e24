-- What a coordinator comes to, whatever it serves, can be a node's.
use Rattle.std.proofs.Common.{◌≡◌, ◌≢◌, ℕ, ◌+◌, ◌<◌, ◌≤◌, Bool, true, false, cond, ◌||◌, List, [], ◌∷◌, length, map, is_some, Option, Some, None, refl, sym, ap, subst, ◌∙◌, true≢false, arith, inl, inr}
use Rattle.std.specs.Ordering.{eq_by_cmp}
use Rattle.std.specs.FinMap as finite
use Rattle.std.specs.FinMap.Entries.{find}
use Rattle.std.proofs.lemmas.Bool.{ltb-true}
use Rattle.std.proofs.lemmas.List.{length-map}
use Rattle.group_types.specs.declared.code.Code.TheVariants as codes
use Rattle.group_types.specs.declared.stamp.Stamp.{Stamp}
use Rattle.group_types.specs.Checks.{Refused, Sender, Verdict, sender_of, verdict_on}
use Rattle.group_types.specs.Commit.{Commit, CommitReply}
use Rattle.group_types.specs.Group.{Group}
use Rattle.group_types.specs.HeartbeatStep.{Arrival, ByVerdict, HeartbeatStep, Reply, StepOf, refusal}
use Rattle.group_types.specs.HeartbeatStep as group
use Rattle.group_types.specs.Limits.{MOST_GROUPS}
use Rattle.group_types.specs.Request.{Heartbeat, Kind, Joins, Beats, Leaves, GoesAway, MeansNothing, is_empty, is_invalid, is_invalid_as, kind_of}
use Rattle.group_types.specs.Text.{Text, text_cmp}
use Rattle.group_types.specs.Tick.{ticked}
use Rattle.group_types.proofs.Lookups.{not_none, same_text, some_is}
use Rattle.group_types.proofs.Orders.{text_cmp_total}
use Rattle.kip_msgs.specs.Values.{RequestValue, heartbeat_request, commit_request}
use Rattle.coord_node.specs.Coordinator.{Answer, Coordinator, Event, Frame, Tick, Image, opening}
use Rattle.coord_node.specs.Restored.{IsGroupId}
use Rattle.coord_node.specs.Steps.{CommitAt, HeartbeatAt, IsRequest, Makes, MakesBy, Opening, RequestStep, RunBy, Step, all_ticked, has_room, is_success, with_group}
use Rattle.coord_node.proofs.SoundGroups.{opening_serves}
use Rattle.group_epochs.specs.Request.{arrival_of, commit_of}
use Rattle.replica_snapshots.specs.Laws.{RunsCanBeNodes}
use Rattle.replica_snapshots.specs.Restoring.{CanBeNode}
use Rattle.replica_snapshots.proofs.NodeWhole.{few_keys}

-- ---- a group that is made has a name

invalid_verdict : (kind : Kind) (sender : Sender) (g : Group) (q : Heartbeat) (stamp : Stamp) → is_invalid q ≡ true → verdict_on kind sender g q stamp ≡ Refused codes.InvalidRequest
invalid_verdict Joins sender g q stamp is = rw is refl
invalid_verdict (Beats n) sender g q stamp is = rw is refl
invalid_verdict Leaves sender g q stamp is = rw is refl
invalid_verdict GoesAway sender g q stamp is = rw is refl
invalid_verdict MeansNothing sender g q stamp is = refl

abbrev reply_in : group.Answer → Reply → Reply
reply_in (group.Replied r) d = r
reply_in group.Closes d = d

named : (a : Arrival) (g new : Group) (r : Reply) → HeartbeatStep g a (group.Replied r) new → is_success r.code ≡ true → a.heartbeat.group ≢ []
named a g new r step success none =
    let kind = kind_of a.heartbeat.epoch in
    let sender = sender_of g.records a.heartbeat in
    let invalid : is_invalid a.heartbeat ≡ true = ap (λ (t : Text). is_empty t || is_invalid_as a.heartbeat kind) none in
    let refused = subst (λ (v : Verdict). ByVerdict v (StepOf kind sender g a) g (group.Replied r) new) (invalid_verdict kind sender g a.heartbeat a.stamp invalid) step in
    let same : r ≡ refusal codes.InvalidRequest = ap (λ (x : group.Answer). reply_in x r) refused.0 in
    true≢false (sym success ∙ ap (λ (x : Reply). is_success x.code) same)

-- ---- what changes

-- a group in place of one that is there
changed : (c : Coordinator) (name : Text) (g after : Group) → finite.get c.groups name ≡ Some g → CanBeNode c → CanBeNode (with_group c name after)
changed c name g after there can = record {
  image = can.image;
  ids = λ other h is.
      elim (eq_by_cmp text_cmp other name) as (λ b. eq_by_cmp text_cmp other name ≡ b → cond b (Some after) (finite.get c.groups other) ≡ Some h → IsGroupId other) [
        | true ↦ λ so _. subst IsGroupId (sym (same_text other name so)) (can.ids name g there)
        | false ↦ λ _ found. can.ids other h found
      ] refl (sym (finite.get-insert text_cmp_total c.groups name after other) ∙ is);
  few = let same : finite.len (finite.insert c.groups name after) ≡ finite.len c.groups =
      finite.len-insert text_cmp_total c.groups name after ∙ ap (λ (o : Option Group). cond (is_some o) (finite.len c.groups) (finite.len c.groups + 1)) there in
      omega (arith, same, can.few);
}

most_one_more : (b : Bool) (n : ℕ) → cond b n (n + 1) ≤ n + 1
most_one_more true n = omega arith
most_one_more false n = omega arith

-- one group more, where there is room
one_more : (c : Coordinator) (name : Text) (g : Group) → IsGroupId name → has_room c ≡ true → CanBeNode c → CanBeNode (with_group c name g)
one_more c name g id room can = record {
  image = can.image;
  ids = λ other h is.
      elim (eq_by_cmp text_cmp other name) as (λ b. eq_by_cmp text_cmp other name ≡ b → cond b (Some g) (finite.get c.groups other) ≡ Some h → IsGroupId other) [
        | true ↦ λ so _. subst IsGroupId (sym (same_text other name so)) id
        | false ↦ λ _ found. can.ids other h found
      ] refl (sym (finite.get-insert text_cmp_total c.groups name g other) ∙ is);
  few = let below : finite.len c.groups < MOST_GROUPS = ltb-true (finite.len c.groups) MOST_GROUPS room in
      omega (arith, below, finite.len-insert text_cmp_total c.groups name g, most_one_more (finite.contains_key c.groups name) (finite.len c.groups));
}

same_node : (c new : Coordinator) → new ≡ c → CanBeNode c → CanBeNode new
same_node c new is can = subst CanBeNode (sym is) can

made : (b room : Bool) (c : Coordinator) (o : Opening) (answer : group.Answer) (new : Coordinator) → has_room c ≡ room → (b ≡ true → IsGroupId o.name) → CanBeNode c
    → Makes b room c o answer new → CanBeNode new
made true true c o answer new room id can is = subst CanBeNode (sym is.1) (one_more c o.name o.left (id refl) room can)
made true false c o answer new room id can is = same_node c new is.1 can
made false true c o answer new room id can is = same_node c new is.1 can
made false false c o answer new room id can is = same_node c new is.1 can

made_by : (given : group.Answer) (c : Coordinator) (a : Arrival) (start g : Group) (answer : group.Answer) (new : Coordinator) → length a.heartbeat.group ≤ 32767
    → HeartbeatStep start a given g → CanBeNode c → MakesBy given c a.heartbeat.group g answer new → CanBeNode new
made_by (group.Replied r) c a start g answer new short step can is =
    made (is_success r.code) (has_room c) c (record { name = a.heartbeat.group; left = g; reply = r }) answer new refl
    (λ success. record { some = named a start g r step success; short = short }) can is
made_by group.Closes c a start g answer new short step can is = same_node c new is.1 can

heartbeat_at : (o : Option Group) (c : Coordinator) (a : Arrival) (given : group.Answer) (new : Coordinator) → finite.get c.groups a.heartbeat.group ≡ o → length a.heartbeat.group ≤ 32767
    → CanBeNode c → HeartbeatAt o c a given new → CanBeNode new
heartbeat_at None c a given new there short can is = made_by is.0 c a _ is.1 given new short is.2 can is.3
heartbeat_at (Some g) c a given new there short can is = same_node _ new is.2 (changed c a.heartbeat.group g is.0 there can)

commit_at : (o : Option Group) (c : Coordinator) (r : Commit) (reply : CommitReply) (new : Coordinator) → finite.get c.groups r.group ≡ o → CanBeNode c → CommitAt o c r reply new → CanBeNode new
commit_at None c r reply new there can is = same_node c new is.1 can
commit_at (Some g) c r reply new there can is = same_node _ new is.2 (changed c r.group g is.0 there can)

request_keeps : (c : Coordinator) (v : RequestValue) (body : List ℕ) (stamp : Stamp) (moment : ℕ) (answer : Answer) (new : Coordinator) → IsRequest v body → CanBeNode c
    → RequestStep c v stamp moment answer new → CanBeNode new
request_keeps c (heartbeat_request header v) body stamp moment answer new request can is =
    heartbeat_at (finite.get c.groups v.group_id) c (arrival_of v stamp moment c.image) is.0 new refl request.spells.fits.1.group_id.length can is.1
request_keeps c (commit_request header v) body stamp moment answer new request can is =
    commit_at (finite.get c.groups v.group_id) c (commit_of v) is.0 new refl can is.1

-- ---- a tick

-- a group that has met a moment was there before
pub ticked_there : (moment : ℕ) (es : List (Text × Group)) (name : Text) (g : Group) → find text_cmp name (map (λ (e : Text × Group). (e.0, ticked e.1 moment)) es) ≡ Some g
    → (h : Group) × (find text_cmp name es ≡ Some h) × (ticked h moment ≡ g)
ticked_there moment [] name g is = absurd (not_none g is)
ticked_there moment (e ∷ es) name g is =
    elim (eq_by_cmp text_cmp name e.0) as (λ b. cond b (Some (ticked e.1 moment)) (find text_cmp name (map (λ (e : Text × Group). (e.0, ticked e.1 moment)) es)) ≡ Some g → (h : Group) × (cond b (Some e.1) (find text_cmp name es) ≡ Some h) × (ticked h moment ≡ g)) [
      | true ↦ λ here. (e.1, refl, some_is (ticked e.1 moment) g here)
      | false ↦ λ behind. ticked_there moment es name g behind
    ] is

tick_keeps : (c : Coordinator) (moment : ℕ) → CanBeNode c → CanBeNode (record c { groups = all_ticked c.groups moment })
tick_keeps c moment can =
    let es = finite.entries c.groups in
    let after = map (λ (e : Text × Group). (e.0, ticked e.1 moment)) es in
    record {
      image = can.image;
      ids = λ name g is.
          let before = ticked_there moment es name g (sym (finite.get-from_entries text_cmp_total after name) ∙ is) in
          can.ids name before.0 (finite.get-entries c.groups name ∙ before.1);
      few = omega (arith, few_keys after, length-map {B = Text × Group} es (λ (e : Text × Group). (e.0, ticked e.1 moment)), finite.len-entries c.groups, can.few);
    }

-- ---- a run

step_keeps : (c : Coordinator) (event : Event) (answer : Answer) (new : Coordinator) → Step c event answer new → CanBeNode c → CanBeNode new
step_keeps c (Frame body stamp moment) answer new (inl request) can = request_keeps c request.0 body stamp moment answer new request.1 can request.2
step_keeps c (Frame body stamp moment) answer new (inr none) can = same_node c new none.2 can
step_keeps c (Tick moment) answer new is can = same_node _ new is.1 (tick_keeps c moment can)
step_keeps c (Image topics) answer new is can = same_node _ new is.1 (record { image = is.2; ids = can.ids; few = can.few })

run_keeps : (events : List Event) (answers : List Answer) (c new : Coordinator) → RunBy Step c events answers new → CanBeNode c → CanBeNode new
run_keeps [] [] c new is can = same_node c new is can
run_keeps [] (answer ∷ answers) c new is can = absurd is
run_keeps (event ∷ events) [] c new is can = absurd is
run_keeps (event ∷ events) (answer ∷ answers) c new is can = run_keeps events answers is.0 new is.2 (step_keeps c event answer is.0 is.1 can)

opening_can : (salt : ℕ) → CanBeNode (opening salt)
opening_can salt = record {
  image = (opening_serves salt).image;
  ids = λ name g is. absurd (not_none g (sym (finite.get-empty text_cmp name) ∙ is));
  few = omega (arith, finite.len-empty text_cmp Group);
}

pub runs_can_be_nodes : RunsCanBeNodes
runs_can_be_nodes salt events answers c run = run_keeps events answers (opening salt) c run (opening_can salt)
