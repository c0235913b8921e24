-- What a step does in a world over replicas.
use Rattle.std.proofs.Common.{◌≡◌, ℕ, ℤ, List, [], ◌∷◌, ◌++◌, map, Option, Some, None, IsTrue, inl, inr, refl, sym, ap, subst, ◌∙◌}
use Rattle.std.specs.Option.{option_map}
use Rattle.std.specs.FinMap as finite
use Rattle.kip_msgs.specs.Values.{CommitReplyValue}
use Rattle.kip_msgs.specs.Laws.{OneRequestABody}
use Rattle.group_types.specs.declared.partition.Partition.{Partition}
use Rattle.group_types.specs.declared.stamp.Stamp.{Stamp}
use Rattle.group_types.specs.Sets.{has}
use Rattle.group_types.specs.Assignors.{Subscriber}
use Rattle.group_types.specs.Owners.{IsLawful}
use Rattle.group_types.specs.Group.{Group}
use Rattle.group_types.proofs.ListLemmas.{In}
use Rattle.coord_node.specs.Laws.{OneAnswer}
use Rattle.member_core.specs.Settings.{Settings}
use Rattle.member_core.specs.Client.{new_client}
use Rattle.replica_entries.specs.Values.{EntryValue}
use Rattle.world_sim.specs.World.{Commit, Request, numbered}
use Rattle.world_sim.specs.Acts.{ActStep, Bring, IsAnswered, Outcome}
use Rattle.world_sim.specs.Exclusivity.{ActsLawfully, Always, BringsHeld, HasCode, HasLawfulTarget, IsOfTaken, RenewsLawfully, target_epoch_of}
use Rattle.world_sim.specs.Invariant.{Keeps}
use Rattle.replica_worlds.specs.ReplicaWorlds.{Brings, IsBrought, ReplicaAct, ReplicaWorld, new_replica_world, over_log, world_of}
use Rattle.replica_worlds.specs.Laws.{BringHeldOverReplicas, HappensNext, RenewLawfullyOverReplicas}
use Rattle.replica_worlds.proofs.WithValues.{get_changed}
use Rattle.replica_worlds.proofs.RestampedMembers.{group_of}
use Rattle.replica_worlds.proofs.RestampedDrafts.{subscribers_as}
use Rattle.replica_worlds.proofs.Pools.{PoolKeeps, empty_pool, pool_grows, pool_keeps, run_pool, step_pool}
use Rattle.replica_worlds.proofs.CameUnder.{world_stamp}
use Rattle.replica_worlds.proofs.Shadows.{shadow}
use Rattle.replica_worlds.proofs.Simulated.{Follows, IsLed, Steps, brought, led_clocked, run_follows, start_follows, steps}

in_longer : {X : Type 0} (xs : List X) (y x : X) → In xs x → In (xs ++ y ∷ []) x
in_longer [] y x there = absurd there
in_longer (z ∷ xs) y x (inl same) = inl same
in_longer (z ∷ xs) y x (inr there) = inr (in_longer xs y x there)

in_last : {X : Type 0} (xs : List X) (y : X) → In (xs ++ y ∷ []) y
in_last [] y = inl refl
in_last (z ∷ xs) y = inr (in_last xs y)

epoch_as : (other : Stamp → Stamp) (o : Option Group) → target_epoch_of (option_map (group_of other) o) ≡ target_epoch_of o
epoch_as other None = refl
epoch_as other (Some g) = refl

lawful_back : (other : Stamp → Stamp) (g : Group) → HasLawfulTarget (group_of other g) → HasLawfulTarget g
lawful_back other g lawful = subst (λ (xs : List Subscriber). IsLawful g.view xs g.target) (subscribers_as other g.records) lawful

renews_back : (other : Stamp → Stamp) (s t : ReplicaWorld) (moment : ℕ) → RenewsLawfully (record (shadow other s) { clock = moment }) (shadow other t) → RenewsLawfully (world_of s) (world_of t)
renews_back other s t moment lawfully name g there renewed =
    let epochs : target_epoch_of (finite.get (shadow other s).coordinator.groups name) ≡ target_epoch_of (finite.get s.log.coordinator.groups name) =
    ap target_epoch_of (get_changed (group_of other) s.log.coordinator.groups name) ∙ epoch_as other (finite.get s.log.coordinator.groups name)
    in
    lawful_back other g
    (lawfully name (group_of other g) (get_changed (group_of other) t.log.coordinator.groups name ∙ ap (option_map (group_of other)) there) (λ same. renewed (sym epochs ∙ same)))

module _ (one_request : OneRequestABody) (one_answer : OneAnswer) (always : Always Keeps) (salt : ℕ) (settings : List Settings) (s : ReplicaWorld) (act : ReplicaAct) (outcome : Outcome) (t : ReplicaWorld)
    (next : HappensNext salt settings s act outcome t) where
  abbrev all : List ReplicaAct
  all = next.acts ++ act ∷ []

  pool : PoolKeeps t.clients t.requests
  pool =
      pool_keeps s.clients s.requests t.clients t.requests (step_pool s act outcome t next.step)
      (run_pool next.acts next.outcomes (new_replica_world salt settings) s next.run (empty_pool (map new_client settings)))

  grows : (k : ℕ) (q : Request) → numbered s.requests k ≡ Some q → numbered t.requests k ≡ Some q
  grows = pool_grows s.clients s.requests t.clients t.requests (step_pool s act outcome t next.step)

  abbrev stamps : Stamp → Stamp
  stamps = world_stamp all t.requests

  follows : Follows one_request one_answer always salt settings all t.requests t.clients next.stamped pool s
  follows =
      run_follows one_request one_answer always salt settings all t.requests t.clients next.stamped pool next.acts next.outcomes (new_replica_world salt settings) s
      (λ x there. in_longer next.acts act x there) grows
      (start_follows one_request one_answer always salt settings all t.requests t.clients next.stamped pool) next.run

  stepped : Steps one_request one_answer always salt settings all t.requests t.clients next.stamped pool s t
  stepped = steps one_request one_answer always salt settings all t.requests t.clients next.stamped pool s t act outcome follows (in_last next.acts act) grows next.step

  led_to_moment : (moment : ℕ) → IsLed salt settings (record (shadow stamps s) { clock = moment })
  led_to_moment moment = led_clocked one_request one_answer always salt settings all t.requests t.clients next.stamped pool s moment follows.led

  renews : Always ActsLawfully → RenewsLawfully (world_of s) (world_of t)
  renews lawfully =
      let led = led_to_moment stepped.moment in
      renews_back stamps s t stepped.moment
      (lawfully salt settings led.acts led.outcomes (record (shadow stamps s) { clock = stepped.moment }) led.run stepped.act stepped.shown (shadow stamps t) stepped.step)

  holds_brought : Always BringsHeld → (number : ℕ) (e : EntryValue) (b : IsBrought s number e outcome t) (k : Commit) (reply : CommitReplyValue) (code : ℤ) (p : Partition) → outcome ≡ IsAnswered reply
      → numbered s.commits number ≡ Some k → HasCode reply code → IsOfTaken code → IsTrue (has k.own p) → IsTrue (has k.since p)
  holds_brought held number e b k reply code p is there has_code taken owns =
      let led = led_to_moment b.came.moment in
      held salt settings led.acts led.outcomes (record (shadow stamps s) { clock = b.came.moment }) led.run number k reply (shadow stamps (over_log b.log b.after)) code p there
      (subst (λ (o : Outcome). ActStep (record (shadow stamps s) { clock = b.came.moment }) (Bring number) o (shadow stamps (over_log b.log b.after))) is
      (brought one_request one_answer always salt settings all t.requests t.clients next.stamped pool s follows outcome t number e b)) has_code taken owns

module _ (one_request : OneRequestABody) (one_answer : OneAnswer) (always : Always Keeps) where
  pub renew_lawfully : Always ActsLawfully → RenewLawfullyOverReplicas
  renew_lawfully lawfully salt settings s act outcome t next = renews one_request one_answer always salt settings s act outcome t next lawfully

  pub bring_held : Always BringsHeld → BringHeldOverReplicas
  bring_held held salt settings s number e k reply t code p next there has_code taken owns =
      holds_brought one_request one_answer always salt settings s (Brings number e) (IsAnswered reply) t next held number e next.step k reply code p refl there has_code taken owns
