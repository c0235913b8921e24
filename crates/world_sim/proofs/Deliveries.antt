-- The world keeps what it knows where a request is delivered, a commit is brought, and time and topics go on.
use Rattle.std.proofs.Common.{◌≡◌, ℕ, ℤ, pos, negsuc, Bool, true, false, List, [], nat_le, int_le, Option, Some, inl, inr, refl, sym, ap, subst, ◌∙◌, arith}
use Rattle.std.specs.List.{Contains}
use Rattle.std.specs.FinMap as finite
use Rattle.std.proofs.lemmas.Bool.{leb-false}
use Rattle.kip_msgs.specs.Values.{HeartbeatRequestValue, RequestValue, ReplyValue, heartbeat_request, commit_request, heartbeat_reply, commit_reply}
use Rattle.kip_msgs.specs.Spelling.{SpellsReply}
use Rattle.kip_msgs.specs.Laws.{OneRequestABody, OneReplyABody}
use Rattle.group_types.specs.declared.stamp.Stamp.{Stamp}
use Rattle.group_types.specs.Text.{Text}
use Rattle.group_types.specs.Partition.{Partitions}
use Rattle.group_types.specs.Topics.{Topics}
use Rattle.group_types.specs.Request.{Heartbeat}
use Rattle.group_types.specs.Group.{Group, new_group}
use Rattle.group_types.specs.HeartbeatStep as group
use Rattle.group_types.specs.Sound.{IsSound}
use Rattle.group_types.specs.Laws.{EveryGroupIsSound}
use Rattle.group_types.proofs.Lookups.{Tie, ties, differs, tie, some_is}
use Rattle.group_epochs.specs.Request.{arrival_of, commit_of, heartbeat_of}
use Rattle.coord_node.specs.Coordinator.{Coordinator, Frame, Tick, Image, Answer, Replied, Closes, Done}
use Rattle.group_types.specs.Frames.{IsFrame}
use Rattle.coord_node.specs.Replies.{IsReplyFrame, reply_value}
use Rattle.coord_node.specs.Steps.{Sends, message_of, RequestStep, FrameStepBy, Step}
use Rattle.coord_node.specs.Laws.{IsServing, StepsAreSound}
use Rattle.member_core.specs.Client.{Client}
use Rattle.member_core.specs.Asking.{header_of, heartbeat_value, request_value}
use Rattle.member_core.specs.Taking.{Accepts, Tells, news_of}
use Rattle.member_core.specs.Committing.{commit_value}
use Rattle.world_sim.specs.World.{World, Request, Commit, with_coordinator}
use Rattle.world_sim.specs.Acts.{Outcome, Answers, BringStep, DeliversIf, DeliverStep, PassesStep, Pools, SeesStep, is_forgotten, no_stamp}
use Rattle.world_sim.specs.Turn.{Pass, Turn}
use Rattle.world_sim.specs.Invariant.{ReplyKeeps, Committed, Keeps, Says, clients_of, group_at}
use Rattle.group_types.proofs.FrameLemmas.{same_body}
use Rattle.world_sim.proofs.Messages.{heartbeat_in, heartbeat_reply_in, heartbeat_said, says_accepted}
use Rattle.world_sim.proofs.Groups.{AllPass, HasTurned, all_sound, beaten_turns, committed_all, join_seen, same_all_pass, ticked_all}
use Rattle.world_sim.proofs.KeptByTurns.{IsIn, reply_given}
use Rattle.world_sim.proofs.Coordinators.{Goes, Passing, Turning, IsReplyIn, client_in, coordinator_keeps, one_client, serving, with_reply_keeps}

-- what correlates a reply with its request
abbrev correlation_in : ReplyValue → ℤ
correlation_in (heartbeat_reply header v) = header.correlation_id
correlation_in (commit_reply header v) = header.correlation_id

abbrev number_in : ℤ → ℕ
number_in (pos n) = n
number_in (negsuc n) = n

from_zero : (n : ℕ) → int_le (pos 0) (pos n) ≡ true
from_zero n =
    elim (nat_le 0 n) as (λ b. nat_le 0 n ≡ b → b ≡ true) [
      | true ↦ λ so. refl
      | false ↦ λ never. let below = leb-false 0 n never in absurd (omega (arith, below))
    ] refl

module _ (one_request : OneRequestABody) (one_reply : OneReplyABody) (steps_sound : StepsAreSound Step) (every : EveryGroupIsSound) where
  new_is_sound : (salt : ℕ) → IsSound (new_group salt)
  new_is_sound salt = every salt 0 (omega arith) [] (new_group salt) refl

  module _ (w : World) (keeps : Keeps w) where
    -- the coordinator serves after a step
    serving_after : (c : Coordinator) → (event : _) (answer : Answer) → Step w.coordinator event answer c → IsServing c
    serving_after c event answer step = steps_sound w.coordinator event answer c step (serving w keeps)

    each_sound : (c : Coordinator) → IsServing c → (name : Text) → IsSound (group_at c name)
    each_sound c serving = all_sound c (new_is_sound c.salt) serving.groups

    -- a step in which all groups pass
    all_passing : (c : Coordinator) (event : _) (answer : Answer) → Step w.coordinator event answer c → AllPass w.coordinator c → Keeps (with_coordinator w c)
    all_passing c event answer step passes =
        let serving_then = serving_after c event answer step in coordinator_keeps w keeps c serving_then.image (each_sound c serving_then) (λ name. Passing (passes name))

    -- ---- a commit is brought

    bring_passes : (k : Commit) → Committed w.coordinator w.clients k → (stamp : Stamp) (moment : ℕ) (answer : Answer) (c : Coordinator)
        → FrameStepBy RequestStep w.coordinator k.body stamp moment answer c → AllPass w.coordinator c
    bring_passes k committed stamp moment answer c (inl (v, is, step)) =
        let message : RequestValue = commit_request (header_of committed.number) (commit_value k.group k.id k.epoch committed.topics) in
        let same : v ≡ message = one_request v message k.body is.spells committed.spells in
        let commits : RequestStep w.coordinator message stamp moment answer c = subst (λ (x : RequestValue). RequestStep w.coordinator x stamp moment answer c) same step in
        committed_all (finite.get w.coordinator.groups k.group) w.coordinator (commit_of (commit_value k.group k.id k.epoch committed.topics)) refl commits.0 c commits.1
    bring_passes k committed stamp moment answer c (inr is) = same_all_pass w.coordinator c is.2

    answered_keeps : (after : World) → Keeps after → (answer : Answer) (outcome : Outcome) (new : World) → Answers after answer outcome new → Keeps new
    answered_keeps after known (Replied frame) outcome new is = subst Keeps (sym is.5.1) known
    answered_keeps after known Closes outcome new is = absurd is
    answered_keeps after known (Done removed) outcome new is = absurd is

    pub brings : (k : Commit) → Contains w.commits k → (outcome : Outcome) (new : World) → BringStep (Some k) w outcome new → Keeps new
    brings k pooled outcome new (answer, c, step, answers) =
        answered_keeps (with_coordinator w c)
        (all_passing c (Frame k.body no_stamp w.clock) answer step (bring_passes k (keeps.commits k pooled) no_stamp w.clock answer c step)) answer outcome new answers

    -- ---- time and topics

    pub sees : (image : Topics) (outcome : Outcome) (new : World) → SeesStep w image outcome new → Keeps new
    sees image outcome new (c, step, is) =
        subst Keeps (sym is.1) (all_passing c (Image image) (Done 0) step
        (λ name. subst (λ (x : Coordinator). Pass (group_at w.coordinator name) (group_at x name)) (sym step.1) (same_all_pass w.coordinator w.coordinator refl name)))

    -- ---- a request is delivered

    module _ (q : Request) (says : Says w.coordinator w.clients q) (remembered : is_forgotten w.coordinator (heartbeat_value says.heartbeat) ≡ false) where
      abbrev said : Heartbeat
      said = says.heartbeat

      same_stamp : q.stamp ≡ record { connection = q.sender; frame = q.stamp.frame }
      same_stamp = ap (λ n. record { connection = n; frame = q.stamp.frame }) says.connection

      it : IsIn (group_at w.coordinator said.group) (clients_of w.clients said.group) q.sender q.stamp.frame said
      it =
          record {
            group = keeps.groups said.group;
            request = says.keeps;
            only = one_client w said.group;
            client = says.client;
            is_client = says.sender;
            remembered = join_seen w.coordinator said remembered;
          }

      -- the group has a turn, and what is sent is its answer
      module _ (given : group.Answer) (answer : Answer) (c : Coordinator) (serving_then : IsServing c)
          (turned : HasTurned w.coordinator said q.stamp given c) (sends : Sends (message_of (pos q.stamp.frame) given) answer) where
        turn : Turn (group_at w.coordinator said.group) said (record { connection = q.sender; frame = q.stamp.frame }) given (group_at c said.group)
        turn = subst (λ (s : Stamp). Turn (group_at w.coordinator said.group) said s given (group_at c said.group)) same_stamp turned.turn

        goes : (name : Text) → Goes (group_at w.coordinator name) (group_at c name) (clients_of w.clients name)
        goes name = by (tie name said.group)
          where
            by : Tie name said.group → Goes (group_at w.coordinator name) (group_at c name) (clients_of w.clients name)
            by (ties same) =
                subst (λ (x : Text). Goes (group_at w.coordinator x) (group_at c x) (clients_of w.clients x)) (sym same) (Turning q.sender q.stamp.frame said given it turn)
            by (differs other _) =
                Passing (subst (λ (x : Group). Pass (group_at w.coordinator name) x) (sym (turned.others name other)) (same_all_pass w.coordinator w.coordinator refl name))

        after : Keeps (with_coordinator w c)
        after = coordinator_keeps w keeps c serving_then.image (each_sound c serving_then) goes

        module _ (body : List ℕ) (frame : List ℕ) (framed : IsFrame body frame) where
          -- what the pooled bytes tell is what the group replied
          replied : (reply : group.Reply) → given ≡ group.Replied reply → IsReplyFrame (reply_value (pos q.stamp.frame) reply) frame
              → (number : ℕ) (m : Text) (epoch : ℕ) (shown : Option Partitions) → Tells number body (Accepts m epoch shown)
              → ReplyKeeps (group_at c said.group) (clients_of w.clients said.group) q.sender number m epoch shown
          replied reply is sent number m epoch shown tells =
              let spells : SpellsReply (reply_value (pos q.stamp.frame) reply) body =
              subst (λ (b : List ℕ). SpellsReply (reply_value (pos q.stamp.frame) reply) b) (same_body sent.body body frame sent.framed framed) sent.spells in
              let same : heartbeat_reply tells.header tells.reply ≡ reply_value (pos q.stamp.frame) reply =
              one_reply (heartbeat_reply tells.header tells.reply) (reply_value (pos q.stamp.frame) reply) body refl tells.spells spells in
              let accepted = says_accepted reply m epoch shown (ap (λ v. news_of (heartbeat_reply_in v tells.reply)) (sym same) ∙ tells.tells) in
              let latest : q.stamp.frame ≡ number = ap (λ v. number_in (correlation_in v)) (sym same) ∙ ap number_in tells.answers in
              let promise = turn.replies reply is accepted.success (ap (int_le (pos 0)) accepted.epoch_is ∙ from_zero epoch) in
              subst (λ n. ReplyKeeps (group_at c said.group) (clients_of w.clients said.group) q.sender n m epoch shown) latest
              (reply_given (group_at w.coordinator said.group) (group_at c said.group) (clients_of w.clients said.group) q.sender q.stamp.frame said given it turn
              reply epoch m shown (client_in w keeps said.group q.sender) (after.groups said.group) promise accepted.id accepted.epoch_is accepted.assignment)

          reply_is_in : (reply : group.Reply) → given ≡ group.Replied reply → IsReplyFrame (reply_value (pos q.stamp.frame) reply) frame
              → IsReplyIn (with_coordinator w c) (record { request = q; body = body })
          reply_is_in reply is sent =
              record {
                keeps = λ x number m epoch shown there tells.
                    let same : x.settings.group ≡ said.group = ap (λ (y : Client). y.settings.group) (some_is x says.client (sym there ∙ says.sender.0)) ∙ says.sender.1 in
                    subst (λ (name : Text). ReplyKeeps (group_at c name) (clients_of w.clients name) q.sender number m epoch shown) (sym same) (replied reply is sent number m epoch shown tells);
                taker = (says.client, says.sender.0);
              }

          by_given : (x : group.Answer) → given ≡ x → Sends (message_of (pos q.stamp.frame) x) (Replied frame) → IsReplyIn (with_coordinator w c) (record { request = q; body = body })
          by_given (group.Replied reply) is sent = reply_is_in reply is sent
          by_given group.Closes is sent = absurd sent

        pooled : (answer' : Answer) → answer ≡ answer' → (outcome : Outcome) (new : World) → Pools (with_coordinator w c) q answer' outcome new → Keeps new
        pooled (Replied frame) is outcome new (body, header, reply, framed, spells, comes) =
            subst Keeps (sym comes.1)
            (with_reply_keeps (with_coordinator w c) after (record { request = q; body = body })
            (by_given body frame framed given refl (subst (λ (x : Answer). Sends (message_of (pos q.stamp.frame) given) x) is sends)))
        pooled Closes is outcome new comes = subst Keeps (sym comes.1) after
        pooled (Done removed) is outcome new comes = absurd comes

      -- what closes pools nothing
      closed : (c : Coordinator) → Keeps (with_coordinator w c) → (answer : Answer) → answer ≡ Closes → (outcome : Outcome) (new : World) → Pools (with_coordinator w c) q answer outcome new → Keeps new
      closed c after answer is outcome new pools =
          let comes = subst (λ (x : Answer). Pools (with_coordinator w c) q x outcome new) is pools in
          subst Keeps (sym comes.1) after

      framed_keeps : (answer : Answer) (c : Coordinator) → IsServing c → Step w.coordinator (Frame q.body q.stamp w.clock) answer c
          → FrameStepBy RequestStep w.coordinator q.body q.stamp w.clock answer c
          → (outcome : Outcome) (new : World) → Pools (with_coordinator w c) q answer outcome new → Keeps new
      framed_keeps answer c serving_then step (inl (v, is, requests)) outcome new pools =
          let message : RequestValue = request_value q.stamp.frame said in
          let same : v ≡ message = one_request v message q.body is.spells says.spells in
          let beats : RequestStep w.coordinator message q.stamp w.clock answer c = subst (λ (x : RequestValue). RequestStep w.coordinator x q.stamp w.clock answer c) same requests in
          let turned : HasTurned w.coordinator (heartbeat_of (heartbeat_value said)) q.stamp beats.0 c =
          beaten_turns w.coordinator (arrival_of (heartbeat_value said) q.stamp w.clock w.coordinator.image) (keeps.groups said.group).sound
          (finite.get w.coordinator.groups said.group) refl beats.0 c beats.1 in
          pooled beats.0 answer c serving_then (subst (λ (x : Heartbeat). HasTurned w.coordinator x q.stamp beats.0 c) (heartbeat_said said) turned) beats.2 answer refl outcome new pools
      framed_keeps answer c serving_then step (inr is) outcome new pools =
          closed c (all_passing c (Frame q.body q.stamp w.clock) answer step (same_all_pass w.coordinator c is.2)) answer is.1 outcome new pools

    delivers_if : (b : Bool) (q : Request) (says : Says w.coordinator w.clients q) → is_forgotten w.coordinator (heartbeat_value says.heartbeat) ≡ b → (outcome : Outcome) (new : World) → DeliversIf b w q outcome new → Keeps new
    delivers_if true q says is outcome new refused = subst Keeps (sym refused.1) keeps
    delivers_if false q says is outcome new (answer, c, step, pools) =
        framed_keeps q says is answer c (serving_after c (Frame q.body q.stamp w.clock) answer step) step step outcome new pools

    pub delivers : (q : Request) → Contains w.requests q → (outcome : Outcome) (new : World) → DeliverStep (Some q) w outcome new → Keeps new
    delivers q there outcome new (header, v, spells, step) =
        let says = keeps.requests q there in
        let same : heartbeat_request header v ≡ request_value q.stamp.frame says.heartbeat = one_request (heartbeat_request header v) (request_value q.stamp.frame says.heartbeat) q.body spells says.spells in
        let message : v ≡ heartbeat_value says.heartbeat = ap (λ (x : RequestValue). heartbeat_in x v) same in
        delivers_if (is_forgotten w.coordinator (heartbeat_value says.heartbeat)) q says refl outcome new
        (subst (λ (x : HeartbeatRequestValue). DeliversIf (is_forgotten w.coordinator x) w q outcome new) message step)

  -- ---- a tick, which sets the clock too

  pub clocked : (w : World) → Keeps w → (moment : ℕ) → Keeps (record w { clock = moment })
  clocked w keeps moment =
      record {
        image = keeps.image;
        groups = keeps.groups;
        clients = keeps.clients;
        requests = keeps.requests;
        replies = keeps.replies;
        takers = keeps.takers;
        commits = keeps.commits;
      }

  pub passes : (w : World) → Keeps w → (moment : ℕ) (outcome : Outcome) (new : World) → PassesStep w moment outcome new → Keeps new
  passes w keeps moment outcome new (removed, c, step, is) =
      let set : World = record w { clock = moment } in
      subst Keeps (sym is.1) (all_passing set (clocked w keeps moment) c (Tick moment) (Done removed) step
      (λ name. subst (λ (x : Coordinator). Pass (group_at w.coordinator name) (group_at x name)) (sym step.1) (ticked_all w.coordinator moment name)))
