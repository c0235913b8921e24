-- A coordinator's step, with other stamps.
use Rattle.std.proofs.Common.{◌≡◌, ℕ, pos, ◌+◌, Bool, true, false, not, ◌&&◌, nat_lt, List, [], ◌∷◌, map, sum_by, Option, Some, None, inl, inr, refl, sym, ap, subst, ◌∙◌}
use Rattle.std.specs.Option.{option_map, option_map_or}
use Rattle.std.specs.Ordering.{int_eq}
use Rattle.std.specs.FinMap as finite
use Rattle.std.proofs.lemmas.List.Sums.{sum_by-cons}
use Rattle.kip_msgs.specs.Values.{CommitRequestValue, HeartbeatRequestValue, RequestHeaderValue, RequestValue, commit_request, heartbeat_request}
use Rattle.kip_msgs.specs.Spelling.{SpellsRequest}
use Rattle.group_types.specs.Limits.{MOST_GROUPS}
use Rattle.group_types.specs.declared.stamp.Stamp.{Stamp}
use Rattle.group_types.specs.Text.{Text, text_cmp}
use Rattle.group_types.specs.Sets.{nothing}
use Rattle.group_types.specs.Topics.{Topics}
use Rattle.group_types.specs.Request.{Heartbeat, is_empty}
use Rattle.group_types.specs.Group.{Group, Past, Record, held, new_group}
use Rattle.group_types.specs.Members.{members_of}
use Rattle.group_types.specs.Tick.{removed_by_tick, ticked}
use Rattle.group_types.specs.Commit.{Commit, CommitReply}
use Rattle.group_types.specs.Checks.{record_under, sender_of}
use Rattle.group_types.specs.HeartbeatStep.{Arrival, HeartbeatStep}
use Rattle.group_types.specs.HeartbeatStep as group
use Rattle.group_types.proofs.Lookups.{not_none}
use Rattle.group_epochs.specs.Request.{arrival_of, commit_of, heartbeat_of}
use Rattle.coord_node.specs.Coordinator.{Answer, Coordinator, Done, Frame, Image, Tick}
use Rattle.coord_node.specs.Steps.{CommitAt, HeartbeatAt, Makes, MakesBy, RequestStep, Step, all_ticked, has_room, is_success, removed_from_all, with_group}
use Rattle.world_sim.specs.World.{granted}
use Rattle.world_sim.specs.Acts.{is_forgotten, is_unremembered, no_stamp}
use Rattle.replica_worlds.specs.Restamped.{restamped_group, restamped_past, with_values}
use Rattle.replica_worlds.specs.Unstamped.{restamped, unstamped}
use Rattle.replica_worlds.proofs.WithValues.{changed_twice, get_changed, insert_changed, len_changed, values_changed}
use Rattle.replica_worlds.proofs.RestampedMembers.{AgreesOn, group_of, remembered_as}
use Rattle.replica_worlds.proofs.RestampedDrafts.{arrival_as}
use Rattle.replica_worlds.proofs.RestampedSteps.{commit_as, heartbeat_as, new_group_as, removed_as, ticked_as}

sum_by_map : {X : Type 0} (f : X → ℕ) (h : X → X) → ((x : X) → f (h x) ≡ f x) → (xs : List X) → sum_by f (map h xs) ≡ sum_by f xs
sum_by_map f h same [] = refl
sum_by_map f h same (x ∷ xs) =
    sum_by-cons f (h x) (map h xs) ∙ (λ i. same x i + sum_by_map f h same xs i) ∙ sym (sum_by-cons f x xs)

under_none : (m : Text) (r : Record) → record_under finite.empty m ≡ Some r → ⊥
under_none [] r is = not_none r is
under_none (c ∷ m) r is = not_none r (sym (finite.get-empty text_cmp (c ∷ m)) ∙ is)

module _ (other : Stamp → Stamp) where
  abbrev pub node_of : Coordinator → Coordinator
  node_of = restamped other

  with_group_as : (c : Coordinator) (name : Text) (g : Group) → node_of (with_group c name g) ≡ with_group (node_of c) name (group_of other g)
  with_group_as c name g = λ i. record c { groups = insert_changed (group_of other) c.groups name g i }

  -- ---- a heartbeat

  makes_as : (succeeds room : Bool) (c : Coordinator) (name : Text) (g : Group) (reply : group.Reply) (answer : group.Answer) (new : Coordinator)
      → Makes succeeds room c (record { name = name; left = g; reply = reply }) answer new
      → Makes succeeds room (node_of c) (record { name = name; left = group_of other g; reply = reply }) answer (node_of new)
  makes_as true true c name g reply answer new is = (is.0, ap node_of is.1 ∙ with_group_as c name g)
  makes_as true false c name g reply answer new is = (is.0, ap node_of is.1)
  makes_as false true c name g reply answer new is = (is.0, ap node_of is.1)
  makes_as false false c name g reply answer new is = (is.0, ap node_of is.1)

  makes_by_as : (given : group.Answer) (c : Coordinator) (name : Text) (g : Group) (answer : group.Answer) (new : Coordinator)
      → MakesBy given c name g answer new → MakesBy given (node_of c) name (group_of other g) answer (node_of new)
  makes_by_as (group.Replied reply) c name g answer new is =
      let room : has_room c ≡ has_room (node_of c) = ap (λ n. nat_lt n MOST_GROUPS) (sym (len_changed (group_of other) c.groups)) in
      subst (λ b. Makes (is_success reply.code) b (node_of c) (record { name = name; left = group_of other g; reply = reply }) answer (node_of new)) room
      (makes_as (is_success reply.code) (has_room c) c name g reply answer new is)
  makes_by_as group.Closes c name g answer new is = (is.0, ap node_of is.1)

  -- the heartbeat's stamp is late as before, behind those that a group compares it with
  abbrev pub AgreesIn : Group → Heartbeat → Stamp → Type 0
  AgreesIn g q stamp = AgreesOn other (sender_of g.records q).own g.past q.member stamp

  agrees_with_none : (salt : ℕ) (q : Heartbeat) (stamp : Stamp) → AgreesIn (new_group salt) q stamp
  agrees_with_none salt q stamp = record { kept = λ r is. absurd (under_none q.member r is); former = tt }

  heartbeat_at_as : (o : Option Group) (c : Coordinator) (a : Arrival) (answer : group.Answer) (new : Coordinator)
      → ((g : Group) → o ≡ Some g → AgreesIn g a.heartbeat a.stamp) → HeartbeatAt o c a answer new
      → HeartbeatAt (option_map (group_of other) o) (node_of c) (arrival_as other a) answer (node_of new)
  heartbeat_at_as None c a answer new agrees (given, g, step, makes) = (
    given,
    group_of other g,
    subst (λ (x : Group). HeartbeatStep x (arrival_as other a) given (group_of other g)) (new_group_as other c.salt)
        (heartbeat_as other (new_group c.salt) a given g (agrees_with_none c.salt a.heartbeat a.stamp) step),
    makes_by_as given c a.heartbeat.group g answer new makes,
  )
  heartbeat_at_as (Some g) c a answer new agrees (after, step, is) =
      (group_of other after, heartbeat_as other g a answer after (agrees g refl) step, ap node_of is ∙ with_group_as c a.heartbeat.group after)

  -- ---- a commit

  commit_at_as : (o : Option Group) (c : Coordinator) (r : Commit) (reply : CommitReply) (new : Coordinator) → CommitAt o c r reply new
      → CommitAt (option_map (group_of other) o) (node_of c) r reply (node_of new)
  commit_at_as None c r reply new is = (is.0, ap node_of is.1)
  commit_at_as (Some g) c r reply new (after, step, is) =
      (group_of other after, commit_as other g r c.image reply after step, ap node_of is ∙ with_group_as c r.group after)

  -- whatever its stamp is
  commits_as : (c : Coordinator) (header : RequestHeaderValue) (v : CommitRequestValue) (stamp late : Stamp) (moment : ℕ) (answer : Answer) (new : Coordinator)
      → RequestStep c (commit_request header v) stamp moment answer new → RequestStep (node_of c) (commit_request header v) late moment answer (node_of new)
  commits_as c header v stamp late moment answer new (reply, at, sends) = (
    reply,
    subst (λ (o : Option Group). CommitAt o (node_of c) (commit_of v) reply (node_of new)) (sym (get_changed (group_of other) c.groups v.group_id))
        (commit_at_as (finite.get c.groups v.group_id) c (commit_of v) reply new at),
    sends,
  )

  -- ---- a frame

  -- wherever a body is a heartbeat, its stamp is late as before
  abbrev pub Agrees : Coordinator → List ℕ → Stamp → Type 0
  Agrees c body stamp =
      (header : RequestHeaderValue) (v : HeartbeatRequestValue) (g : Group) → SpellsRequest (heartbeat_request header v) body
      → finite.get c.groups v.group_id ≡ Some g → AgreesIn g (heartbeat_of v) stamp

  request_as : (c : Coordinator) (body : List ℕ) (v : RequestValue) (stamp : Stamp) (moment : ℕ) (answer : Answer) (new : Coordinator) → SpellsRequest v body → Agrees c body stamp
      → RequestStep c v stamp moment answer new → RequestStep (node_of c) v (other stamp) moment answer (node_of new)
  request_as c body (heartbeat_request header v) stamp moment answer new spells agrees (given, at, sends) = (
    given,
    subst (λ (o : Option Group). HeartbeatAt o (node_of c) (arrival_of v (other stamp) moment c.image) given (node_of new)) (sym (get_changed (group_of other) c.groups v.group_id))
        (heartbeat_at_as (finite.get c.groups v.group_id) c (arrival_of v stamp moment c.image) given new (λ g there. agrees header v g spells there) at),
    sends,
  )
  request_as c body (commit_request header v) stamp moment answer new spells agrees is = commits_as c header v stamp (other stamp) moment answer new is

  pub frame_as : (c : Coordinator) (body : List ℕ) (stamp : Stamp) (moment : ℕ) (answer : Answer) (new : Coordinator) → Agrees c body stamp
      → Step c (Frame body stamp moment) answer new → Step (node_of c) (Frame body (other stamp) moment) answer (node_of new)
  frame_as c body stamp moment answer new agrees (inl (v, is, step)) = inl (v, is, request_as c body v stamp moment answer new is.spells agrees step)
  frame_as c body stamp moment answer new agrees (inr (none, closes, same)) = inr (none, closes, ap node_of same)

  -- a body that is no heartbeat
  pub commit_frame_as : (c : Coordinator) (body : List ℕ) (stamp late : Stamp) (moment : ℕ) (answer : Answer) (new : Coordinator)
      → ((header : RequestHeaderValue) (v : HeartbeatRequestValue) → SpellsRequest (heartbeat_request header v) body → ⊥)
      → Step c (Frame body stamp moment) answer new → Step (node_of c) (Frame body late moment) answer (node_of new)
  commit_frame_as c body stamp late moment answer new apart (inl (v, is, step)) = inl (v, is, by v is.spells step)
    where
      by : (v : RequestValue) → SpellsRequest v body → RequestStep c v stamp moment answer new → RequestStep (node_of c) v late moment answer (node_of new)
      by (heartbeat_request header v) spells step = absurd (apart header v spells)
      by (commit_request header v) spells step = commits_as c header v stamp late moment answer new step
  commit_frame_as c body stamp late moment answer new apart (inr (none, closes, same)) = inr (none, closes, ap node_of same)

  -- ---- a tick, and an image

  pub tick_as : (c : Coordinator) (moment : ℕ) (answer : Answer) (new : Coordinator) → Step c (Tick moment) answer new → Step (node_of c) (Tick moment) answer (node_of new)
  tick_as c moment answer new (answers, is) =
      let removed : removed_from_all c.groups moment ≡ removed_from_all (with_values (group_of other) c.groups) moment =
      sym (ap (sum_by (λ (g : Group). removed_by_tick g moment)) (values_changed (group_of other) c.groups)
      ∙ sum_by_map (λ (g : Group). removed_by_tick g moment) (group_of other) (λ g. removed_as other g moment) (finite.values c.groups))
      in
      let groups : with_values (group_of other) (all_ticked c.groups moment) ≡ all_ticked (with_values (group_of other) c.groups) moment =
      changed_twice (group_of other) (λ (g : Group). ticked g moment) c.groups
      ∙ ap (λ (f : Group → Group). with_values f c.groups) (λ i g. ticked_as other g moment i)
      ∙ sym (changed_twice (λ (g : Group). ticked g moment) (group_of other) c.groups)
      in (answers ∙ ap Done removed, ap node_of is ∙ (λ i. record c { groups = groups i }))

  pub image_as : (c : Coordinator) (image : Topics) (answer : Answer) (new : Coordinator) → Step c (Image image) answer new → Step (node_of c) (Image image) answer (node_of new)
  image_as c image answer new (answers, is, facts) = (answers, ap node_of is, facts)

  -- ---- what a world looks at

  granted_in : (o : Option Group) (id : Text) → option_map_or (λ (g : Group). held g.grants id) (option_map (group_of other) o) nothing ≡ option_map_or (λ (g : Group). held g.grants id) o nothing
  granted_in None id = refl
  granted_in (Some g) id = refl

  pub granted_as : (c : Coordinator) (name id : Text) → granted (node_of c) name id ≡ granted c name id
  granted_as c name id =
      ap (λ (o : Option Group). option_map_or (λ (g : Group). held g.grants id) o nothing) (get_changed (group_of other) c.groups name)
      ∙ granted_in (finite.get c.groups name) id

  unremembered_as : (o : Option Group) (id : Text) → is_unremembered (option_map (group_of other) o) id ≡ is_unremembered o id
  unremembered_as None id = refl
  unremembered_as (Some g) id = ap not (remembered_as other (members_of g) id)

  pub forgotten_as : (c : Coordinator) (v : HeartbeatRequestValue) → is_forgotten (node_of c) v ≡ is_forgotten c v
  forgotten_as c v =
      let same : is_unremembered (finite.get (node_of c).groups v.group_id) v.member_id ≡ is_unremembered (finite.get c.groups v.group_id) v.member_id =
      ap (λ (o : Option Group). is_unremembered o v.member_id) (get_changed (group_of other) c.groups v.group_id) ∙ unremembered_as (finite.get c.groups v.group_id) v.member_id
      in
      ap (λ b. int_eq v.member_epoch (pos 0) && not (is_empty v.member_id) && b) same

  -- ---- no stamps

  unstamped_group_as : (g : Group) → restamped_group (λ stamp. no_stamp) (group_of other g) ≡ restamped_group (λ stamp. no_stamp) g
  unstamped_group_as g = λ i. record g { records = changed_twice (λ (r : Record). record r { stamp = no_stamp }) (λ (r : Record). record r { stamp = other r.stamp }) g.records i; past = pasts g.past i }
    where
      pasts : (past : Past) → restamped_past (λ stamp. no_stamp) (restamped_past other past) ≡ restamped_past (λ stamp. no_stamp) past
      pasts [] = refl
      pasts (e ∷ past) = ap (λ (xs : Past). (e.0, no_stamp) ∷ xs) (pasts past)

  pub unstamped_as : (c : Coordinator) → unstamped c ≡ unstamped (node_of c)
  unstamped_as c =
      let groups : with_values (restamped_group (λ stamp. no_stamp)) (with_values (group_of other) c.groups) ≡ with_values (restamped_group (λ stamp. no_stamp)) c.groups =
      changed_twice (restamped_group (λ stamp. no_stamp)) (group_of other) c.groups
      ∙ ap (λ (f : Group → Group). with_values f c.groups) (λ i g. unstamped_group_as g i)
      in
      λ i. record c { groups = sym groups i }
