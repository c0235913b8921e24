-- Every reply in its pool spells a reply to a heartbeat.
use Rattle.std.proofs.Common.{◌≡◌, ◌⊎◌, ℕ, Bool, true, false, List, [], ◌∷◌, Option, Some, None, inl, inr, sym, ap, subst}
use Rattle.std.specs.List.{Contains}
use Rattle.kip_msgs.specs.Values.{CommitRequestTopicValue, ResponseHeaderValue, HeartbeatReplyValue, heartbeat_reply}
use Rattle.kip_msgs.specs.Spelling.{SpellsReply}
use Rattle.group_types.specs.declared.partition.Partition.{Partition}
use Rattle.coord_node.specs.Coordinator.{Coordinator, Answer, Replied, Closes, Done}
use Rattle.member_core.specs.Client.{Client}
use Rattle.member_core.specs.Asking.{Ask, request_for}
use Rattle.member_core.specs.Refusing.{is_too_large}
use Rattle.world_sim.specs.World as world
use Rattle.world_sim.specs.World.{World, Request, Reply, new_world, numbered, with_coordinator}
use Rattle.world_sim.specs.Acts.{Act, Asks, GivesUp, Deliver, Take, Release, Commits, Bring, Clock, Passes, Sees, Outcome, ActStep, Answers, AsksIf, AsksStep, BringStep, ChangesIf, CommitsBy, CommitsIf, CommitsStep, DeliversIf, DeliverStep, GivesUpStep, Pools, ReleaseStep, Run, SendsIf, TakeBy, TakenAs, TakeStep, commit_by, fits_frame}
use Rattle.world_sim.specs.Exclusivity.{Always}
use Rattle.world_sim.specs.Viewing.{RepliesAreSpelled}
use Rattle.world_sim.proofs.Lists.{to_in}
use Rattle.world_sim.proofs.Numbered.{one_more}

module _ (w : World) (spelled : RepliesAreSpelled w) (outcome : Outcome) (new : World) where
  -- the pool stays
  same : new.replies ≡ w.replies → RepliesAreSpelled new
  same is r there = spelled r (subst (λ (rs : List Reply). Contains rs r) is there)

  same_world : new ≡ w → RepliesAreSpelled new
  same_world is = same (ap (λ (x : World). x.replies) is)

  asks_if : (b : Bool) (c : Client) (n : ℕ) (ask : Ask) → AsksIf b c w n ask outcome new → RepliesAreSpelled new
  asks_if false c n ask is = same_world is.1
  asks_if true c n ask is = by (is_too_large (request_for c ask)) is
    where
      by : (large : Bool) → SendsIf large c w n ask outcome new → RepliesAreSpelled new
      by true is = same_world is.1
      by false (body, after, asks, is) = same (ap (λ (x : World). x.replies) is.1)

  asks_step : (o : Option Client) (n : ℕ) (ask : Ask) → AsksStep o w n ask outcome new → RepliesAreSpelled new
  asks_step None n ask is = same_world is.1
  asks_step (Some c) n ask is = asks_if _ c n ask is

  changes_if : (b : Bool) (c : Client) (n : ℕ) → ChangesIf b c w n outcome new → RepliesAreSpelled new
  changes_if true c n is = same (ap (λ (x : World). x.replies) is.1)
  changes_if false c n is = same_world is.1

  gives_up_step : (o : Option Client) (n : ℕ) → GivesUpStep o w n outcome new → RepliesAreSpelled new
  gives_up_step None n is = same_world is.1
  gives_up_step (Some c) n is = changes_if _ _ n is

  release_step : (o : Option Client) (n : ℕ) (p : Partition) → ReleaseStep o w n p outcome new → RepliesAreSpelled new
  release_step None n p is = same_world is.1
  release_step (Some c) n p is = changes_if _ _ n is

  pools : (q : Request) (after : Coordinator) (answer : Answer) → Pools (with_coordinator w after) q answer outcome new → RepliesAreSpelled new
  pools q after (Replied frame) (body, header, reply, framed, spells, comes) =
      λ r there. by r (one_more w.replies it r (subst (λ (rs : List Reply). Contains rs r) (ap (λ (x : World). x.replies) comes.1) there))
    where
      it : Reply
      it = record { request = q; body = body }

      by : (r : Reply) → Contains w.replies r ⊎ (r ≡ it) → (header : ResponseHeaderValue) × (said : HeartbeatReplyValue) × SpellsReply (heartbeat_reply header said) r.body
      by r (inl before) = spelled r before
      by r (inr is) = (header, reply, subst (λ (x : Reply). SpellsReply (heartbeat_reply header reply) x.body) (sym is) spells)
  pools q after Closes is = same (ap (λ (x : World). x.replies) is.1)
  pools q after (Done removed) is = absurd is

  delivers_if : (b : Bool) (q : Request) → DeliversIf b w q outcome new → RepliesAreSpelled new
  delivers_if true q is = same_world is.1
  delivers_if false q (answer, after, step, is) = pools q after answer is

  deliver_step : (o : Option Request) → DeliverStep o w outcome new → RepliesAreSpelled new
  deliver_step None is = same_world is.1
  deliver_step (Some q) is = delivers_if _ q is.3

  taken_as : (taken : Bool) (n : ℕ) (c : Client) → TakenAs taken w n c outcome new → RepliesAreSpelled new
  taken_as true n c is = same (ap (λ (x : World). x.replies) is.1)
  taken_as false n c is = same_world is.1

  take_by : (o : Option Client) (r : Reply) → TakeBy o r w outcome new → RepliesAreSpelled new
  take_by None r is = absurd is
  take_by (Some c) r (taken, after, takes, is) = taken_as taken r.request.sender after is

  take_step : (o : Option Reply) → TakeStep o w outcome new → RepliesAreSpelled new
  take_step None is = same_world is.1
  take_step (Some r) is = take_by (numbered w.clients r.request.sender) r is

  commits_by : (b : Bool) (k : world.Commit) → CommitsBy b w k outcome new → RepliesAreSpelled new
  commits_by true k is = same (ap (λ (x : World). x.replies) is.1)
  commits_by false k is = same_world is.1

  commits_if : (b : Bool) (c : Client) (topics : List CommitRequestTopicValue) → CommitsIf b c w topics outcome new → RepliesAreSpelled new
  commits_if false c topics is = same_world is.1
  commits_if true c topics (body, spells, is) = commits_by (fits_frame body) (commit_by c body) is

  commits_step : (o : Option Client) (topics : List CommitRequestTopicValue) → CommitsStep o w topics outcome new → RepliesAreSpelled new
  commits_step None topics is = same_world is.1
  commits_step (Some c) topics is = commits_if _ c topics is

  answers : (after : Coordinator) (answer : Answer) → Answers (with_coordinator w after) answer outcome new → RepliesAreSpelled new
  answers after (Replied frame) is = same (ap (λ (x : World). x.replies) is.5.1)
  answers after Closes is = absurd is
  answers after (Done removed) is = absurd is

  bring_step : (o : Option world.Commit) → BringStep o w outcome new → RepliesAreSpelled new
  bring_step None is = same_world is.1
  bring_step (Some k) (answer, after, step, is) = answers after answer is

act_spells : (w : World) → RepliesAreSpelled w → (act : Act) (outcome : Outcome) (new : World) → ActStep w act outcome new → RepliesAreSpelled new
act_spells w spelled (Asks n ask) outcome new is = asks_step w spelled outcome new (numbered w.clients n) n ask is
act_spells w spelled (GivesUp n) outcome new is = gives_up_step w spelled outcome new (numbered w.clients n) n is
act_spells w spelled (Deliver k) outcome new is = deliver_step w spelled outcome new (numbered w.requests k) is
act_spells w spelled (Take j) outcome new is = take_step w spelled outcome new (numbered w.replies j) is
act_spells w spelled (Release n p) outcome new is = release_step w spelled outcome new (numbered w.clients n) n p is
act_spells w spelled (Commits n topics) outcome new is = commits_step w spelled outcome new (numbered w.clients n) topics is
act_spells w spelled (Bring k) outcome new is = bring_step w spelled outcome new (numbered w.commits k) is
act_spells w spelled (Clock moment) outcome new is = same w spelled outcome new (ap (λ (x : World). x.replies) is.1)
act_spells w spelled (Passes moment) outcome new (removed, after, step, is) = same w spelled outcome new (ap (λ (x : World). x.replies) is.1)
act_spells w spelled (Sees image) outcome new (after, step, is) = same w spelled outcome new (ap (λ (x : World). x.replies) is.1)

run_spells : (acts : List Act) (outcomes : List Outcome) (w new : World) → RepliesAreSpelled w → Run w acts outcomes new → RepliesAreSpelled new
run_spells [] [] w new spelled is = subst RepliesAreSpelled (sym is) spelled
run_spells [] (outcome ∷ outcomes) w new spelled is = absurd is
run_spells (act ∷ acts) [] w new spelled is = absurd is
run_spells (act ∷ acts) (outcome ∷ outcomes) w new spelled (middle, step, later) = run_spells acts outcomes middle new (act_spells w spelled act outcome middle step) later

pub always_spelled : Always RepliesAreSpelled
always_spelled salt settings acts outcomes w run = run_spells acts outcomes (new_world salt settings) w (λ r there. absurd (to_in [] r there)) run
