-- The stamps that a coordinator has: each is that of a request that came, and is late as it is in the world.
use Rattle.std.proofs.Common.{◌≡◌, ◌≢◌, ℕ, List, [], ◌∷◌, Some, inl, inr, refl, sym, ap, subst, ◌∙◌}
use Rattle.std.specs.List.{AllByRecursion, Contains}
use Rattle.std.specs.Option.{option_map}
use Rattle.std.specs.FinMap as finite
use Rattle.kip_msgs.specs.Values.{HeartbeatRequestValue, RequestHeaderValue, RequestValue, commit_request, heartbeat_request}
use Rattle.kip_msgs.specs.Spelling.{SpellsRequest}
use Rattle.kip_msgs.specs.Laws.{OneRequestABody}
use Rattle.group_types.specs.declared.stamp.Stamp.{Stamp}
use Rattle.group_types.specs.Text.{Text}
use Rattle.group_types.specs.Group.{Group, Past, Record, Records}
use Rattle.group_types.specs.Checks.{is_late, record_under}
use Rattle.group_types.proofs.ListLemmas.{In, from_in}
use Rattle.group_types.proofs.Lookups.{not_none, some_is}
use Rattle.group_epochs.specs.Request.{heartbeat_of}
use Rattle.coord_node.specs.Coordinator.{Coordinator}
use Rattle.member_core.specs.Client.{Client}
use Rattle.member_core.specs.Asking.{heartbeat_value, request_value}
use Rattle.replica_entries.specs.Values.{EntryValue}
use Rattle.world_sim.specs.World.{Request, numbered}
use Rattle.world_sim.specs.Turn.{Seen}
use Rattle.world_sim.specs.Invariant.{Keeps, Says, group_at}
use Rattle.world_sim.proofs.Former.{made_is_given}
use Rattle.world_sim.proofs.Groups.{group_is}
use Rattle.world_sim.proofs.Numbered.{numbered_in}
use Rattle.replica_worlds.specs.ReplicaWorlds.{AreStamped, Delivers, ReplicaAct, ReplicaWorld, stamp_of_entry}
use Rattle.replica_worlds.specs.Unstamped.{restamped}
use Rattle.replica_worlds.proofs.WithValues.{get_changed}
use Rattle.replica_worlds.proofs.RestampedMembers.{SameOrder, group_of, past_of, record_of}
use Rattle.replica_worlds.proofs.RestampedNodes.{Agrees, AgreesIn}
use Rattle.replica_worlds.proofs.Pools.{PoolKeeps}
use Rattle.replica_worlds.proofs.CameUnder.{CameIn, came_in, came_world, kept_came, kept_stamp, same_order, world_of_came, world_stamp}
use Rattle.replica_worlds.proofs.Shadows.{shadow}

-- ---- a record, and a former member, have a stamp that other stamps leave as it is

module _ (other : Stamp → Stamp) where
  kept_group : (c : Coordinator) → restamped other c ≡ c → (name : Text) (g : Group) → finite.get c.groups name ≡ Some g → group_of other g ≡ g
  kept_group c same name g there =
      some_is (group_of other g) g
      (sym (get_changed (group_of other) c.groups name ∙ ap (option_map (group_of other)) there) ∙ ap (λ (x : Coordinator). finite.get x.groups name) same ∙ there)

  kept_record : (g : Group) → group_of other g ≡ g → (m : Text) (r : Record) → finite.get g.records m ≡ Some r → other r.stamp ≡ r.stamp
  kept_record g same m r there =
      ap (λ (x : Record). x.stamp) (some_is (record_of other r) r
      (sym (get_changed (record_of other) g.records m ∙ ap (option_map (record_of other)) there) ∙ ap (λ (x : Group). finite.get x.records m) same ∙ there))

  first_stamp : Past → Stamp → Stamp
  first_stamp [] t = t
  first_stamp (e ∷ past) t = e.1

  rest_of : Past → Past
  rest_of [] = []
  rest_of (e ∷ past) = past

  kept_past : (past : Past) → past_of other past ≡ past → AllByRecursion (λ e. other e.1 ≡ e.1) past
  unfolding first_stamp rest_of
  kept_past [] same = tt
  kept_past (e ∷ past) same = (ap (λ (xs : Past). first_stamp xs e.1) same, kept_past past (ap rest_of same))

  past_in : (past : Past) (e : Text × Stamp) → In past e → In (past_of other past) (e.0, other e.1)
  past_in [] e there = there
  past_in (x ∷ past) e (inl same) = inl (ap (λ (y : Text × Stamp). (y.0, other y.1)) same)
  past_in (x ∷ past) e (inr there) = inr (past_in past e there)

under_get : (records : Records) (m : Text) (r : Record) → record_under records m ≡ Some r → finite.get records m ≡ Some r
under_get records [] r is = absurd (not_none r is)
under_get records (c ∷ m) r is = is

-- what holds of each stamp that is seen under an id
each_seen : (g : Group) (m : Text) (P : Stamp → Type 0) (past : Past) → ((e : Text × Stamp) → In past e → m ≡ e.0 → P e.1) → AllByRecursion (λ e. m ≡ e.0 → P e.1) past
each_seen g m P [] so = tt
each_seen g m P (e ∷ past) so = (so e (inl refl), each_seen g m P past (λ x there. so x (inr there)))

all_in : {X : Type 0} (P : X → Type 0) (xs : List X) → AllByRecursion P xs → (x : X) → In xs x → P x
all_in P [] all x there = absurd there
all_in P (y ∷ xs) all x (inl same) = subst P same all.0
all_in P (y ∷ xs) all x (inr there) = all_in P xs all.1 x there

-- ---- the stamps that stay

-- a coordinator has only stamps that stay: so a stamp that stays is late as before
pub agrees_kept : (other : Stamp → Stamp) (c : Coordinator) → restamped other c ≡ c → (body : List ℕ) (stamp : Stamp) → other stamp ≡ stamp → Agrees other c body stamp
agrees_kept other c same body stamp stays header v g spells there =
    let kept = kept_group other c same v.group_id g there in
    record {
      kept = λ r is. λ i. is_late (stays i) (kept_record other g kept v.member_id r (under_get g.records v.member_id r is) i);
      former = each_seen g v.member_id (SameOrder other stamp) g.past (λ e past is. λ i. is_late (stays i) (all_in (λ x. other x.1 ≡ x.1) g.past (kept_past other g.past (ap (λ (x : Group). x.past) kept)) e past i));
    }

-- ---- the stamps of a log and those of a world

heartbeat_in : RequestValue → HeartbeatRequestValue → HeartbeatRequestValue
heartbeat_in (heartbeat_request header v) other = v
heartbeat_in (commit_request header v) other = other

module _ (one_request : OneRequestABody) (acts : List ReplicaAct) (requests : List Request) (clients : List Client) (stamped : AreStamped acts requests) (pool : PoolKeeps clients requests) where
  abbrev World_stamp : Stamp → Stamp
  World_stamp = world_stamp acts requests

  abbrev Kept_stamp : Stamp → Stamp
  Kept_stamp = kept_stamp acts requests

  module _ (s : ReplicaWorld) (known : Keeps (shadow World_stamp s)) (tracked : restamped Kept_stamp s.log.coordinator ≡ s.log.coordinator)
      (k : ℕ) (e : EntryValue) (q : Request) (came : In acts (Delivers k e)) (now : numbered s.requests k ≡ Some q) (pooled : numbered requests k ≡ Some q) where
    says : Says (shadow World_stamp s).coordinator s.clients q
    says = known.requests q (numbered_in s.requests k q now)

    module _ (header : RequestHeaderValue) (v : HeartbeatRequestValue) (g : Group) (spells : SpellsRequest (heartbeat_request header v) q.body) (there : finite.get s.log.coordinator.groups v.group_id ≡ Some g) where
      value : v ≡ heartbeat_value says.heartbeat
      unfolding heartbeat_in
      value = ap (λ (x : RequestValue). heartbeat_in x v) (one_request (heartbeat_request header v) (request_value q.stamp.frame says.heartbeat) q.body spells says.spells)

      member : v.member_id ≡ says.heartbeat.member
      member = ap (λ (x : HeartbeatRequestValue). x.member_id) value

      in_world : group_at (shadow World_stamp s).coordinator says.heartbeat.group ≡ group_of World_stamp g
      in_world =
          group_is (shadow World_stamp s).coordinator says.heartbeat.group (group_of World_stamp g)
          (get_changed (group_of World_stamp) s.log.coordinator.groups says.heartbeat.group
          ∙ ap (option_map (group_of World_stamp)) (ap (λ (x : HeartbeatRequestValue). finite.get s.log.coordinator.groups x.group_id) (sym value) ∙ there))

      owner : (t : Stamp) → Seen (group_of World_stamp g) v.member_id t → t.connection ≡ q.sender
      owner t seen = says.keeps.owner given t seen_there
        where
          seen_there : Seen (group_at (shadow World_stamp s).coordinator says.heartbeat.group) says.heartbeat.member t
          seen_there = subst (λ (x : Group). Seen x says.heartbeat.member t) (sym in_world) (subst (λ (m : Text). Seen (group_of World_stamp g) m t) member seen)

          given : says.heartbeat.member ≢ []
          given empty =
              let made = (known.groups says.heartbeat.group).made says.heartbeat.member t seen_there in
              made_is_given (group_at (shadow World_stamp s).coordinator says.heartbeat.group).salt made.serial (sym made.made ∙ empty)

      order_of_seen : (t : Stamp) → Kept_stamp t ≡ t → Seen (group_of World_stamp g) v.member_id (World_stamp t) → SameOrder World_stamp (stamp_of_entry e) t
      order_of_seen t stays seen =
          let found = kept_came acts requests t stays in
          let c : CameIn requests acts t found.0 = came_in requests acts t found.0 found.1 in
          let own : CameIn requests acts (stamp_of_entry e) q = record { number = k; entry = e; is_in = came; is_pooled = pooled; stamped = refl } in
          let is_r : World_stamp t ≡ found.0.stamp = came_world acts requests t found.0 found.1 in
          let is_q : World_stamp (stamp_of_entry e) ≡ q.stamp = came_world acts requests (stamp_of_entry e) q (world_of_came acts requests clients stamped pool k e q came pooled) in
          let sender : found.0.sender ≡ q.sender = sym (pool.connection c.number found.0 c.is_pooled) ∙ ap (λ (x : Stamp). x.connection) (sym is_r) ∙ owner (World_stamp t) seen in
          (λ i. is_late (is_q i) (is_r i)) ∙ same_order acts requests clients stamped pool (stamp_of_entry e) t q found.0 own c (sym sender)

      kept : group_of Kept_stamp g ≡ g
      kept = kept_group Kept_stamp s.log.coordinator tracked v.group_id g there

      seen_record : (r : Record) → record_under g.records v.member_id ≡ Some r → SameOrder World_stamp (stamp_of_entry e) r.stamp
      seen_record r is =
          let has : finite.get g.records v.member_id ≡ Some r = under_get g.records v.member_id r is in
          order_of_seen r.stamp (kept_record Kept_stamp g kept v.member_id r has)
          (inl (record_of World_stamp r, get_changed (record_of World_stamp) g.records v.member_id ∙ ap (option_map (record_of World_stamp)) has, refl))

      seen_past : (x : Text × Stamp) → In g.past x → v.member_id ≡ x.0 → SameOrder World_stamp (stamp_of_entry e) x.1
      seen_past x past is =
          order_of_seen x.1 (all_in (λ y. Kept_stamp y.1 ≡ y.1) g.past (kept_past Kept_stamp g.past (ap (λ (y : Group). y.past) kept)) x past)
          (inr (subst (λ (m : Text). Contains (past_of World_stamp g.past) (m, World_stamp x.1)) (sym is)
          (from_in (past_of World_stamp g.past) (x.0, World_stamp x.1) (past_in World_stamp g.past x past))))

      agrees_in : AgreesIn World_stamp g (heartbeat_of v) (stamp_of_entry e)
      agrees_in = record { kept = seen_record; former = each_seen g v.member_id (SameOrder World_stamp (stamp_of_entry e)) g.past seen_past }

    pub agrees : Agrees World_stamp s.log.coordinator q.body (stamp_of_entry e)
    agrees header v g spells there = agrees_in header v g spells there
