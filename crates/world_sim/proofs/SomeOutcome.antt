-- An act has an outcome in a live world.
use Rattle.std.proofs.Common.{◌≡◌, ℕ, suc, ◌≤◌, Bool, true, false, ◌&&◌, nat_le, List, length, Option, Some, None, inl, refl, arith}
use Rattle.std.proofs.lemmas.Bool.{leb-true}
use Rattle.flex_wire.specs.Composed.{FitsArray}
use Rattle.kip_msgs.specs.Values.{CommitRequestTopicValue, HeartbeatReplyValue, RequestHeaderValue, ResponseHeaderValue, commit_request, heartbeat_reply, heartbeat_request}
use Rattle.kip_msgs.specs.Laws.{OneReplyABody}
use Rattle.kip_msgs.specs.Spelling.{FitsCommitRequestTopic, FitsRequest, SpellsReply, request_body}
use Rattle.group_types.specs.HeartbeatStep as group
use Rattle.group_types.specs.Laws.{EveryGroupIsSound}
use Rattle.group_core.specs.Existence.{HasAnAnswer}
use Rattle.coord_node.specs.Coordinator.{Answer, Replied, Closes, Done}
use Rattle.coord_node.specs.Laws.{StepsAreSound}
use Rattle.coord_node.specs.Replies.{commit_value}
use Rattle.coord_node.specs.Steps.{IsRequest, Sends, Step, message_of}
use Rattle.coord_node.proofs.AnsweredEvents.{requests}
use Rattle.member_core.specs.Limits.{GREATEST_NUMBER}
use Rattle.member_core.specs.Client.{Client}
use Rattle.member_core.specs.Asking.{Ask, after_giving_up, may_ask, request_for}
use Rattle.member_core.specs.Committing.{commit_for, may_commit_at}
use Rattle.member_core.specs.Existence.{AsksAreMade, CanSay}
use Rattle.member_core.specs.Refusing.{is_too_large}
use Rattle.member_core.specs.Releasing.{after_release, may_release}
use Rattle.member_core.proofs.Answered.{id_fits, no_tags, takes_spelled}
use Rattle.world_sim.specs.World.{Commit, Reply, Request, World, numbered, with_coordinator}
use Rattle.world_sim.specs.Acts.{Act, ActStep, Answers, Asks, AsksIf, AsksStep, Bring, BringStep, ChangesIf, Clock, Commits, CommitsBy, CommitsIf, CommitsStep, Deliver, DeliversIf, DeliverStep, GivesUp, GivesUpStep, Outcome, Passes, Pools, Release, ReleaseStep, Sees, SendsIf, Take, TakeBy, TakenAs, TakeStep, commit_by, fits_frame, is_forgotten, may_commit, no_stamp}
use Rattle.world_sim.specs.Existence.{ActsHaveAnOutcome, CanBeTaken, IsCommit, IsLive, IsPooled, IsPossible}
use Rattle.world_sim.proofs.Numbered.{numbered_in}

-- there is an outcome, and a world that is left
record HasOutcome (Outcomes : Outcome → World → Type 0) : Type 0 where
  pub outcome : Outcome
  pub new : World
  pub step : Outcomes outcome new

-- ---- clients

changes_if : (may : Bool) (after : Client) (w : World) (n : ℕ) → HasOutcome (ChangesIf may after w n)
changes_if true after w n = record { outcome = _; new = _; step = (refl, refl) }
changes_if false after w n = record { outcome = _; new = _; step = (refl, refl) }

gives_up : (o : Option Client) (w : World) (n : ℕ) → HasOutcome (GivesUpStep o w n)
gives_up None w n = record { outcome = _; new = _; step = (refl, refl) }
gives_up (Some c) w n = let is = changes_if c.waits (after_giving_up c) w n in record { outcome = is.outcome; new = is.new; step = is.step }

releases : (o : Option Client) (w : World) (n : ℕ) (p : _) → HasOutcome (ReleaseStep o w n p)
releases None w n p = record { outcome = _; new = _; step = (refl, refl) }
releases (Some c) w n p = let is = changes_if (may_release c) (after_release c p) w n in record { outcome = is.outcome; new = is.new; step = is.step }

sends_if : AsksAreMade → (large : Bool) (c : Client) (w : World) (n : ℕ) (ask : Ask) → CanSay c → may_ask c ask ≡ true → is_too_large (request_for c ask) ≡ large → HasOutcome (SendsIf large c w n ask)
sends_if made true c w n ask can may large = record { outcome = _; new = _; step = (refl, refl) }
sends_if made false c w n ask can may small =
    let (body, after, asked) = made c ask can may small in
    record { outcome = _; new = _; step = (body, after, asked, (refl, refl)) }

asks_if : AsksAreMade → (may : Bool) (c : Client) (w : World) (n : ℕ) (ask : Ask) → CanSay c → may_ask c ask ≡ may → HasOutcome (AsksIf may c w n ask)
asks_if made false c w n ask can is = record { outcome = _; new = _; step = (refl, refl) }
asks_if made true c w n ask can is =
    let sent = sends_if made (is_too_large (request_for c ask)) c w n ask can is refl in
    record { outcome = sent.outcome; new = sent.new; step = sent.step }

asks : AsksAreMade → (o : Option Client) (w : World) (n : ℕ) (ask : Ask) → ((c : Client) → o ≡ Some c → CanSay c) → HasOutcome (AsksStep o w n ask)
asks made None w n ask can = record { outcome = _; new = _; step = (refl, refl) }
asks made (Some c) w n ask can = let is = asks_if made (may_ask c ask) c w n ask (can c refl) refl in record { outcome = is.outcome; new = is.new; step = is.step }

-- ---- commits

commits_by : (fits : Bool) (w : World) (k : Commit) → HasOutcome (CommitsBy fits w k)
commits_by true w k = record { outcome = _; new = _; step = (refl, refl) }
commits_by false w k = record { outcome = _; new = _; step = (refl, refl) }

commit_fits : (c : Client) → CanSay c → (number : ℕ) (topics : List CommitRequestTopicValue) → FitsArray FitsCommitRequestTopic topics → number ≤ GREATEST_NUMBER → FitsRequest (commit_for c number topics)
commit_fits c can number topics fits low = (
  record { correlation_id = record { sfits = omega arith }; client_id = tt; tags = no_tags },
  record {
    group_id = can.settings.group;
    generation_id_or_member_epoch = can.epoch;
    member_id = id_fits c.id can.id;
    group_instance_id = tt;
    topics = fits;
    tags = no_tags;
  },
)

number_fits : (inside : Bool) (number : ℕ) → (inside && nat_le number GREATEST_NUMBER) ≡ true → number ≤ GREATEST_NUMBER
number_fits true number is = leb-true number GREATEST_NUMBER is
number_fits false number is = cc

commits_if : (may : Bool) (c : Client) (w : World) (topics : List CommitRequestTopicValue) → CanSay c → FitsArray FitsCommitRequestTopic topics → may_commit c (suc (length w.commits)) ≡ may → HasOutcome (CommitsIf may c w topics)
commits_if false c w topics can fits is = record { outcome = _; new = _; step = (refl, refl) }
commits_if true c w topics can fits is =
    let number : ℕ = suc (length w.commits) in
    let body : List ℕ = request_body (commit_for c number topics) in
    let made = commits_by (fits_frame body) w (commit_by c body) in
    record {
      outcome = made.outcome;
      new = made.new;
      step = (body, record { fits = commit_fits c can number topics fits (number_fits (may_commit_at c.place) number is); bytes = refl }, made.step);
    }

commits : (o : Option Client) (w : World) (topics : List CommitRequestTopicValue) → FitsArray FitsCommitRequestTopic topics → ((c : Client) → o ≡ Some c → CanSay c) → HasOutcome (CommitsStep o w topics)
commits None w topics fits can = record { outcome = _; new = _; step = (refl, refl) }
commits (Some c) w topics fits can = let is = commits_if (may_commit c (suc (length w.commits))) c w topics (can c refl) fits refl in record { outcome = is.outcome; new = is.new; step = is.step }

-- ---- replies

taken_as : (taken : Bool) (w : World) (n : ℕ) (after : Client) → HasOutcome (TakenAs taken w n after)
taken_as true w n after = record { outcome = _; new = _; step = (refl, refl) }
taken_as false w n after = record { outcome = _; new = _; step = (refl, refl) }

module _ (every : EveryGroupIsSound) (steps_are_sound : StepsAreSound Step) (heartbeats : HasAnAnswer) (made : AsksAreMade) (one_reply : OneReplyABody) where
  takes_by : (o : Option Client) (r : Reply) (w : World) → (c : Client) → o ≡ Some c → (header : ResponseHeaderValue) (reply : HeartbeatReplyValue) → SpellsReply (heartbeat_reply header reply) r.body → HasOutcome (TakeBy o r w)
  takes_by None r w c is header reply spells = cc
  takes_by (Some c) r w d is header reply spells =
      let (taken, after, takes) = takes_spelled one_reply c r.body header reply spells in
      let comes = taken_as taken w r.request.sender after in
      record { outcome = comes.outcome; new = comes.new; step = (taken, after, takes, comes.step) }

  takes : (o : Option Reply) (w : World) → ((r : Reply) → o ≡ Some r → CanBeTaken w.clients r) → HasOutcome (TakeStep o w)
  takes None w can = record { outcome = _; new = _; step = (refl, refl) }
  takes (Some r) w can =
      let is = can r refl in
      let taken = takes_by (numbered w.clients r.request.sender) r w is.client is.taker is.header is.reply is.spells in
      record { outcome = taken.outcome; new = taken.new; step = taken.step }

  -- ---- what the coordinator answers

  pools_reply : (w : World) (q : Request) (correlation : _) (r : group.Reply) (answer : Answer) → Sends (message_of correlation (group.Replied r)) answer → HasOutcome (Pools w q answer)
  pools_reply w q correlation r (Replied frame) sent =
      record { outcome = _; new = _; step = (sent.body, _, _, sent.framed, sent.spells, (refl, refl)) }
  pools_reply w q correlation r Closes sent = absurd sent
  pools_reply w q correlation r (Done removed) sent = absurd sent

  pools : (w : World) (q : Request) (correlation : _) (given : group.Answer) (answer : Answer) → Sends (message_of correlation given) answer → HasOutcome (Pools w q answer)
  pools w q correlation (group.Replied r) answer sent = pools_reply w q correlation r answer sent
  pools w q correlation group.Closes (Replied frame) sent = absurd sent
  pools w q correlation group.Closes Closes sent = record { outcome = _; new = _; step = (refl, refl) }
  pools w q correlation group.Closes (Done removed) sent = absurd sent

  delivers_if : (forgotten : Bool) (w : World) (q : Request) → IsLive w → (header : RequestHeaderValue) (v : _) → IsRequest (heartbeat_request header v) q.body → HasOutcome (DeliversIf forgotten w q)
  delivers_if true w q live header v is = record { outcome = _; new = _; step = (refl, refl) }
  delivers_if false w q live header v is =
      let (answer, c, step) = requests every steps_are_sound heartbeats w.coordinator live.serving (heartbeat_request header v) q.body q.stamp w.clock is in
      let pooled = pools (with_coordinator w c) q header.correlation_id step.0 answer step.2 in
      record { outcome = pooled.outcome; new = pooled.new; step = (answer, c, inl (heartbeat_request header v, is, step), pooled.step) }

  delivers : (o : Option Request) (w : World) → IsLive w → ((q : Request) → o ≡ Some q → IsPooled w.clients q) → HasOutcome (DeliverStep o w)
  delivers None w live can = record { outcome = _; new = _; step = (refl, refl) }
  delivers (Some q) w live can =
      let pooled = can q refl in
      let delivered = delivers_if (is_forgotten w.coordinator pooled.heartbeat) w q live pooled.header pooled.heartbeat pooled.is in
      record { outcome = delivered.outcome; new = delivered.new; step = (pooled.header, pooled.heartbeat, pooled.is.spells, delivered.step) }

  answers : (w : World) (correlation : _) (reply : _) (answer : Answer) → Sends (Some (commit_value correlation reply)) answer → HasOutcome (Answers w answer)
  answers w correlation reply (Replied frame) sent = record { outcome = _; new = _; step = (sent.body, _, _, sent.framed, sent.spells, (refl, refl)) }
  answers w correlation reply Closes sent = absurd sent
  answers w correlation reply (Done removed) sent = absurd sent

  brings : (o : Option Commit) (w : World) → IsLive w → ((k : Commit) → o ≡ Some k → IsCommit k) → HasOutcome (BringStep o w)
  brings None w live can = record { outcome = _; new = _; step = (refl, refl) }
  brings (Some k) w live can =
      let it = can k refl in
      let (answer, c, step) = requests every steps_are_sound heartbeats w.coordinator live.serving (commit_request it.header it.commit) k.body no_stamp w.clock it.is in
      let answered = answers (with_coordinator w c) it.header.correlation_id step.0 answer step.2 in
      record { outcome = answered.outcome; new = answered.new; step = (answer, c, inl (commit_request it.header it.commit, it.is, step), answered.step) }

  -- ---- any act

  act : (w : World) (a : Act) → IsLive w → IsPossible a → HasOutcome (ActStep w a)
  act w (Asks n ask) live can = let is = asks made (numbered w.clients n) w n ask (live.clients n) in record { outcome = is.outcome; new = is.new; step = is.step }
  act w (GivesUp n) live can = let is = gives_up (numbered w.clients n) w n in record { outcome = is.outcome; new = is.new; step = is.step }
  act w (Deliver k) live can = let is = delivers (numbered w.requests k) w live (λ q is. live.requests q (numbered_in w.requests k q is)) in record { outcome = is.outcome; new = is.new; step = is.step }
  act w (Take j) live can = let is = takes (numbered w.replies j) w (λ r is. live.replies r (numbered_in w.replies j r is)) in record { outcome = is.outcome; new = is.new; step = is.step }
  act w (Release n p) live can = let is = releases (numbered w.clients n) w n p in record { outcome = is.outcome; new = is.new; step = is.step }
  act w (Commits n topics) live can = let is = commits (numbered w.clients n) w topics can (live.clients n) in record { outcome = is.outcome; new = is.new; step = is.step }
  act w (Bring k) live can = let is = brings (numbered w.commits k) w live (λ it is. live.commits it (numbered_in w.commits k it is)) in record { outcome = is.outcome; new = is.new; step = is.step }
  act w (Clock moment) live can = record { outcome = _; new = _; step = (refl, refl) }
  act w (Passes moment) live can = record { outcome = _; new = _; step = (_, _, (refl, refl), (refl, refl)) }
  act w (Sees image) live can = record { outcome = _; new = _; step = (_, (refl, refl, can), (refl, refl)) }

  pub acts_have_an_outcome : ActsHaveAnOutcome
  acts_have_an_outcome w a live can = let is = act w a live can in (is.outcome, is.new, is.step)
