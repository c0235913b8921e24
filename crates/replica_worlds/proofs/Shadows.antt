-- A world over replicas as a world, with other stamps: what happens in the one happens in the other.
use Rattle.std.proofs.Common.{◌≡◌, ℕ, suc, Bool, true, false, List, map, length, Option, Some, None, sym, ap, ◌∙◌}
use Rattle.kip_msgs.specs.Values.{CommitRequestTopicValue}
use Rattle.group_types.specs.declared.partition.Partition.{Partition}
use Rattle.group_types.specs.declared.stamp.Stamp.{Stamp}
use Rattle.group_types.specs.Sets.{common}
use Rattle.coord_node.specs.Coordinator.{Answer, Closes, Coordinator, Done, Replied}
use Rattle.member_core.specs.Client.{Client}
use Rattle.member_core.specs.Asking.{Ask, after_giving_up, may_ask, request_for}
use Rattle.member_core.specs.Refusing.{is_too_large}
use Rattle.member_core.specs.Releasing.{after_release, may_release}
use Rattle.coord_replica.specs.Replicas.{LogState}
use Rattle.world_sim.specs.World.{Commit, Reply, Request, World, cut, numbered, with_commit, with_coordinator, with_reply}
use Rattle.world_sim.specs.Acts.{Act, Asks, GivesUp, Deliver, Take, Release, Commits, Bring, Clock, Passes, Sees, ActStep, Answers, AsksIf, AsksStep, ChangesIf, CommitsBy, CommitsIf, CommitsStep, GivesUpStep, Outcome, Pools, ReleaseStep, SendsIf, TakeBy, TakeStep, TakenAs, commit_by, fits_frame, may_commit}
use Rattle.replica_worlds.specs.ReplicaWorlds.{IsClients, ReplicaWorld, over_log, world_of}
use Rattle.replica_worlds.specs.Unstamped.{restamped}
use Rattle.replica_worlds.proofs.RestampedNodes.{granted_as}

module _ (other : Stamp → Stamp) where
  abbrev pub shadow : ReplicaWorld → World
  shadow s = record (world_of s) { coordinator = restamped other s.log.coordinator }

  cut_as : (c : Coordinator) (k : Commit) → cut (restamped other c) k ≡ cut c k
  cut_as c k = λ i. record k { since = common k.since (granted_as other c k.group k.id i) }

  pub cuts_as : (c : Coordinator) (ks : List Commit) → map (cut (restamped other c)) ks ≡ map (cut c) ks
  cuts_as c ks = ap (λ (f : Commit → Commit). map f ks) (λ i k. cut_as c k i)

  -- ---- an act of a client

  module _ (s : ReplicaWorld) (outcome : Outcome) (after : World) where
    abbrev again : World → World
    again w = shadow (over_log s.log w)

    asks_as : (n : ℕ) (ask : Ask) (o : Option Client) → AsksStep o (world_of s) n ask outcome after → AsksStep o (shadow s) n ask outcome (again after)
    asks_as n ask None is = (is.0, ap again is.1)
    asks_as n ask (Some c) is = by (may_ask c ask) is
      where
        sends : (large : Bool) → SendsIf large c (world_of s) n ask outcome after → SendsIf large c (shadow s) n ask outcome (again after)
        sends true is = (is.0, ap again is.1)
        sends false (body, new, asks, is) = (body, new, asks, (is.0, ap again is.1))

        by : (may : Bool) → AsksIf may c (world_of s) n ask outcome after → AsksIf may c (shadow s) n ask outcome (again after)
        by false is = (is.0, ap again is.1)
        by true is = sends (is_too_large (request_for c ask)) is

    changes_as : (b : Bool) (new : Client) (n : ℕ) → ChangesIf b new (world_of s) n outcome after → ChangesIf b new (shadow s) n outcome (again after)
    changes_as false new n is = (is.0, ap again is.1)
    changes_as true new n is = (is.0, ap again is.1)

    gives_up_as : (n : ℕ) (o : Option Client) → GivesUpStep o (world_of s) n outcome after → GivesUpStep o (shadow s) n outcome (again after)
    gives_up_as n None is = (is.0, ap again is.1)
    gives_up_as n (Some c) is = changes_as c.waits (after_giving_up c) n is

    release_as : (n : ℕ) (p : Partition) (o : Option Client) → ReleaseStep o (world_of s) n p outcome after → ReleaseStep o (shadow s) n p outcome (again after)
    release_as n p None is = (is.0, ap again is.1)
    release_as n p (Some c) is = changes_as (may_release c) (after_release c p) n is

    take_as : (o : Option Reply) → TakeStep o (world_of s) outcome after → TakeStep o (shadow s) outcome (again after)
    take_as None is = (is.0, ap again is.1)
    take_as (Some r) is = by (numbered s.clients r.request.sender) is
      where
        taken_as : (b : Bool) (n : ℕ) (new : Client) → TakenAs b (world_of s) n new outcome after → TakenAs b (shadow s) n new outcome (again after)
        taken_as true n new is = (is.0, ap again is.1)
        taken_as false n new is = (is.0, ap again is.1)

        by : (o : Option Client) → TakeBy o r (world_of s) outcome after → TakeBy o r (shadow s) outcome (again after)
        by None is = is
        by (Some c) (taken, new, takes, is) = (taken, new, takes, taken_as taken r.request.sender new is)

    commits_as : (topics : List CommitRequestTopicValue) (o : Option Client) → CommitsStep o (world_of s) topics outcome after → CommitsStep o (shadow s) topics outcome (again after)
    commits_as topics None is = (is.0, ap again is.1)
    commits_as topics (Some c) is = by (may_commit c (suc (length s.commits))) is
      where
        commits_by : (b : Bool) (k : Commit) → CommitsBy b (world_of s) k outcome after → CommitsBy b (shadow s) k outcome (again after)
        commits_by true k is = (is.0, ap again is.1 ∙ ap (λ (x : Commit). with_commit (shadow s) x) (sym (cut_as s.log.coordinator k)))
        commits_by false k is = (is.0, ap again is.1)

        by : (b : Bool) → CommitsIf b c (world_of s) topics outcome after → CommitsIf b c (shadow s) topics outcome (again after)
        by false is = (is.0, ap again is.1)
        by true (body, spells, is) = (body, spells, commits_by (fits_frame body) (commit_by c body) is)

  pub client_as : (s : ReplicaWorld) (act : Act) (outcome : Outcome) (after : World) → IsClients act → ActStep (world_of s) act outcome after
      → ActStep (shadow s) act outcome (shadow (over_log s.log after))
  client_as s (Asks n ask) outcome after own is = asks_as s outcome after n ask (numbered s.clients n) is
  client_as s (GivesUp n) outcome after own is = gives_up_as s outcome after n (numbered s.clients n) is
  client_as s (Deliver k) outcome after own is = absurd own
  client_as s (Take j) outcome after own is = take_as s outcome after (numbered s.replies j) is
  client_as s (Release n p) outcome after own is = release_as s outcome after n p (numbered s.clients n) is
  client_as s (Commits n topics) outcome after own is = commits_as s outcome after topics (numbered s.clients n) is
  client_as s (Bring k) outcome after own is = absurd own
  client_as s (Clock moment) outcome after own is = absurd own
  client_as s (Passes moment) outcome after own is = absurd own
  client_as s (Sees image) outcome after own is = absurd own

  -- ---- the log has gone on, at a moment

  module _ (s : ReplicaWorld) (moment : ℕ) (log : LogState) (at : log.moment ≡ moment) where
    abbrev pub gone_on : World
    gone_on = with_coordinator (record (shadow s) { clock = moment }) (restamped other log.coordinator)

    abbrev went_on : World
    went_on = with_coordinator (world_of s) log.coordinator

    pub goes_as : shadow (over_log log went_on) ≡ gone_on
    goes_as = λ i. record (world_of s) { coordinator = restamped other log.coordinator; clock = at i; commits = sym (cuts_as log.coordinator s.commits) i }

    pub pools_as : (q : Request) (answer : Answer) (outcome : Outcome) (after : World) → Pools went_on q answer outcome after → Pools gone_on q answer outcome (shadow (over_log log after))
    pools_as q (Replied frame) outcome after (body, header, reply, framed, spells, is) = (
      body,
      header,
      reply,
      framed,
      spells,
      (is.0, ap (λ (x : World). shadow (over_log log x)) is.1 ∙ ap (λ (x : World). with_reply x (record { request = q; body = body })) goes_as),
    )
    pools_as q Closes outcome after is = (is.0, ap (λ (x : World). shadow (over_log log x)) is.1 ∙ goes_as)
    pools_as q (Done removed) outcome after is = is

    pub answers_as : (answer : Answer) (outcome : Outcome) (after : World) → Answers went_on answer outcome after → Answers gone_on answer outcome (shadow (over_log log after))
    answers_as (Replied frame) outcome after (body, header, reply, framed, spells, is) =
        (body, header, reply, framed, spells, (is.0, ap (λ (x : World). shadow (over_log log x)) is.1 ∙ goes_as))
    answers_as Closes outcome after is = is
    answers_as (Done removed) outcome after is = is
