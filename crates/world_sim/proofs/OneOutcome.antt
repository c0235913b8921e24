-- An act has one outcome in a world, and leaves one world.
use Rattle.std.proofs.Common.{◌≡◌, ℕ, suc, Bool, true, false, List, [], ◌∷◌, length, Option, Some, None, refl, sym, ap, subst, ◌∙◌}
use Rattle.kip_msgs.specs.Values.{HeartbeatRequestValue, HeartbeatReplyValue, CommitReplyValue, CommitRequestTopicValue, RequestValue, heartbeat_request, heartbeat_reply, commit_reply}
use Rattle.kip_msgs.specs.Spelling.{SpellsReply}
use Rattle.kip_msgs.specs.Laws.{OneBodyARequest, OneReplyABody, OneRequestABody}
use Rattle.group_types.specs.declared.partition.Partition.{Partition}
use Rattle.group_types.specs.Topics.{Topics}
use Rattle.coord_node.specs.Coordinator.{Coordinator, Answer, Frame, Tick, Image, Replied, Closes, Done}
use Rattle.coord_node.specs.Laws.{OneAnswer}
use Rattle.member_core.specs.Client.{Client}
use Rattle.member_core.specs.Asking.{Ask, may_ask, request_for}
use Rattle.member_core.specs.Committing.{commit_for}
use Rattle.member_core.specs.Laws.{OneOutcomeAReply}
use Rattle.member_core.specs.Refusing.{is_too_large}
use Rattle.world_sim.specs.World.{World, Request, Reply, Commit, numbered, with_coordinator, with_reply}
use Rattle.world_sim.specs.Acts.{Asks, GivesUp, Deliver, Take, Release, Commits, Bring, Clock, Passes, Sees, Outcome, IsAnswered, IsDone, IsRemoved, IsReplied, IsSent, Answers, AsksIf, AsksStep, BringStep, ChangesIf, Comes, CommitsBy, CommitsIf, CommitsStep, DeliversIf, DeliverStep, GivesUpStep, PassesStep, Pools, ReleaseStep, SeesStep, Run, SendsIf, TakeBy, TakenAs, TakeStep, commit_by, fits_frame, is_forgotten, may_commit, no_stamp, with_sent}
use Rattle.world_sim.specs.Laws.{OneOutcomeAnAct, OneRunOfActs}
use Rattle.group_types.proofs.FrameLemmas.{same_body}
use Rattle.world_sim.proofs.Messages.{commit_reply_in, heartbeat_in, heartbeat_reply_in}

-- what comes of an act, where it is said outright
said : (shown : Outcome) (after : World) (a b : Outcome) (new other : World) → Comes shown after a new → Comes shown after b other → (a ≡ b) × (new ≡ other)
said shown after a b new other one two = (one.0 ∙ sym two.0, one.1 ∙ sym two.1)

-- how many members an answer says were removed
abbrev number_of : Answer → ℕ
number_of (Replied frame) = 0
number_of Closes = 0
number_of (Done n) = n

-- what is sent
abbrev SentAs : World → ℕ → Client → List ℕ → Outcome → World → Type 0
SentAs w n after body outcome new = Comes (IsSent (suc (length w.requests))) (with_sent w n after body) outcome new

-- what is pooled
abbrev PooledAs : World → Request → Outcome → World → List ℕ → HeartbeatReplyValue → Type 0
PooledAs w q outcome new body reply =
    Comes (IsReplied (suc (length w.replies)) reply) (with_reply w (record { request = q; body = body })) outcome new

module _ (w : World) (a b : Outcome) (new other : World) where
  changes_one : (t : Bool) (c : Client) (n : ℕ) → ChangesIf t c w n a new → ChangesIf t c w n b other → (a ≡ b) × (new ≡ other)
  changes_one true c n one two = said _ _ a b new other one two
  changes_one false c n one two = said _ w a b new other one two

  gives_up_one : (o : Option Client) (n : ℕ) → GivesUpStep o w n a new → GivesUpStep o w n b other → (a ≡ b) × (new ≡ other)
  gives_up_one None n one two = said _ w a b new other one two
  gives_up_one (Some c) n one two = changes_one c.waits _ n one two

  release_one : (o : Option Client) (n : ℕ) (p : Partition) → ReleaseStep o w n p a new → ReleaseStep o w n p b other → (a ≡ b) × (new ≡ other)
  release_one None n p one two = said _ w a b new other one two
  release_one (Some c) n p one two = changes_one _ _ n one two

  commits_by_one : (t : Bool) (k : Commit) → CommitsBy t w k a new → CommitsBy t w k b other → (a ≡ b) × (new ≡ other)
  commits_by_one true k one two = said _ _ a b new other one two
  commits_by_one false k one two = said _ w a b new other one two

  taken_one : (taken : Bool) (n : ℕ) (c : Client) → TakenAs taken w n c a new → TakenAs taken w n c b other → (a ≡ b) × (new ≡ other)
  taken_one true n c one two = said _ _ a b new other one two
  taken_one false n c one two = said _ w a b new other one two

  module _ (one_body : OneBodyARequest) where
    sends_one : (large : Bool) (c : Client) (n : ℕ) (ask : Ask) → SendsIf large c w n ask a new → SendsIf large c w n ask b other → (a ≡ b) × (new ≡ other)
    sends_one true c n ask one two = said _ w a b new other one two
    sends_one false c n ask (body, after, asks, sends) (body', after', asks', sends') =
        let same : body' ≡ body = one_body (request_for c ask) body' body asks'.spells asks.spells in
        let clients : after' ≡ after = asks'.after ∙ sym asks.after in
        said _ _ a b new other sends
        (subst (λ (x : Client). SentAs w n x body b other) clients (subst (λ (x : List ℕ). SentAs w n after' x b other) same sends'))

    asks_one : (t : Bool) (c : Client) (n : ℕ) (ask : Ask) → AsksIf t c w n ask a new → AsksIf t c w n ask b other → (a ≡ b) × (new ≡ other)
    asks_one false c n ask one two = said _ w a b new other one two
    asks_one true c n ask one two = sends_one (is_too_large (request_for c ask)) c n ask one two

    asks_step_one : (o : Option Client) (n : ℕ) (ask : Ask) → AsksStep o w n ask a new → AsksStep o w n ask b other → (a ≡ b) × (new ≡ other)
    asks_step_one None n ask one two = said _ w a b new other one two
    asks_step_one (Some c) n ask one two = asks_one (may_ask c ask) c n ask one two

    commits_one : (t : Bool) (c : Client) (topics : List CommitRequestTopicValue) → CommitsIf t c w topics a new → CommitsIf t c w topics b other → (a ≡ b) × (new ≡ other)
    commits_one false c topics one two = said _ w a b new other one two
    commits_one true c topics (body, spells, by) (body', spells', by') =
        let same : body' ≡ body = one_body (commit_for c (suc (length w.commits)) topics) body' body spells' spells in
        commits_by_one (fits_frame body) (commit_by c body) by (subst (λ (x : List ℕ). CommitsBy (fits_frame x) w (commit_by c x) b other) same by')

    commits_step_one : (o : Option Client) (topics : List CommitRequestTopicValue) → CommitsStep o w topics a new → CommitsStep o w topics b other → (a ≡ b) × (new ≡ other)
    commits_step_one None topics one two = said _ w a b new other one two
    commits_step_one (Some c) topics one two = commits_one (may_commit c (suc (length w.commits))) c topics one two

  take_by_one : OneOutcomeAReply → (o : Option Client) (r : Reply) → TakeBy o r w a new → TakeBy o r w b other → (a ≡ b) × (new ≡ other)
  take_by_one one_outcome None r one two = absurd one
  take_by_one one_outcome (Some c) r (taken, after, takes, is) (taken', after', takes', is') =
      let same = one_outcome c r.body taken' taken after' after takes' takes in
      taken_one taken r.request.sender after is
      (subst (λ (x : Client). TakenAs taken w r.request.sender x b other) same.1 (subst (λ t. TakenAs t w r.request.sender after' b other) same.0 is'))

  take_step_one : OneOutcomeAReply → (o : Option Reply) → TakeStep o w a new → TakeStep o w b other → (a ≡ b) × (new ≡ other)
  take_step_one one_outcome None one two = said _ w a b new other one two
  take_step_one one_outcome (Some r) one two = take_by_one one_outcome (numbered w.clients r.request.sender) r one two

  module _ (one_reply : OneReplyABody) where
    pools_one : (after : World) (q : Request) (answer : Answer) → Pools after q answer a new → Pools after q answer b other → (a ≡ b) × (new ≡ other)
    pools_one after q (Replied frame) (body, header, reply, framed, spells, comes) (body', header', reply', framed', spells', comes') =
        let bodies : body' ≡ body = same_body body' body frame framed' framed in
        let replies : heartbeat_reply header' reply' ≡ heartbeat_reply header reply =
        one_reply (heartbeat_reply header' reply') (heartbeat_reply header reply) body refl (subst (λ (x : List ℕ). SpellsReply (heartbeat_reply header' reply') x) bodies spells') spells in
        said _ _ a b new other comes
        (subst (λ (x : List ℕ). PooledAs after q b other x reply) bodies (subst (λ (x : HeartbeatReplyValue). PooledAs after q b other body' x) (ap (λ v. heartbeat_reply_in v reply') replies) comes'))
    pools_one after q Closes one two = said _ after a b new other one two
    pools_one after q (Done removed) one two = absurd one

    answers_one : (after : World) (answer : Answer) → Answers after answer a new → Answers after answer b other → (a ≡ b) × (new ≡ other)
    answers_one after (Replied frame) (body, header, reply, framed, spells, comes) (body', header', reply', framed', spells', comes') =
        let bodies : body' ≡ body = same_body body' body frame framed' framed in
        let replies : commit_reply header' reply' ≡ commit_reply header reply =
        one_reply (commit_reply header' reply') (commit_reply header reply) body refl (subst (λ (x : List ℕ). SpellsReply (commit_reply header' reply') x) bodies spells') spells in
        said _ after a b new other comes (subst (λ (x : CommitReplyValue). Comes (IsAnswered x) after b other) (ap (λ v. commit_reply_in v reply') replies) comes')
    answers_one after Closes one two = absurd one
    answers_one after (Done removed) one two = absurd one

    module _ (one_answer : OneAnswer) where
      bring_one : (o : Option Commit) → BringStep o w a new → BringStep o w b other → (a ≡ b) × (new ≡ other)
      bring_one None one two = said _ w a b new other one two
      bring_one (Some k) (answer, c, step, is) (answer', c', step', is') =
          let same = one_answer w.coordinator (Frame k.body no_stamp w.clock) answer' answer c' c step' step in
          answers_one (with_coordinator w c) answer is
          (subst (λ (x : Coordinator). Answers (with_coordinator w x) answer b other) same.1 (subst (λ (x : Answer). Answers (with_coordinator w c') x b other) same.0 is'))

      delivers_one : (t : Bool) (q : Request) → DeliversIf t w q a new → DeliversIf t w q b other → (a ≡ b) × (new ≡ other)
      delivers_one true q one two = said _ w a b new other one two
      delivers_one false q (answer, c, step, is) (answer', c', step', is') =
          let same = one_answer w.coordinator (Frame q.body q.stamp w.clock) answer' answer c' c step' step in
          pools_one (with_coordinator w c) q answer is
          (subst (λ (x : Coordinator). Pools (with_coordinator w x) q answer b other) same.1 (subst (λ (x : Answer). Pools (with_coordinator w c') q x b other) same.0 is'))

      deliver_one : OneRequestABody → (o : Option Request) → DeliverStep o w a new → DeliverStep o w b other → (a ≡ b) × (new ≡ other)
      deliver_one one_request None one two = said _ w a b new other one two
      deliver_one one_request (Some q) (header, v, spells, step) (header', v', spells', step') =
          let requests : heartbeat_request header' v' ≡ heartbeat_request header v = one_request (heartbeat_request header' v') (heartbeat_request header v) q.body spells' spells in
          delivers_one (is_forgotten w.coordinator v) q step
          (subst (λ (x : HeartbeatRequestValue). DeliversIf (is_forgotten w.coordinator x) w q b other) (ap (λ (x : RequestValue). heartbeat_in x v') requests) step')

      passes_one : (moment : ℕ) → PassesStep w moment a new → PassesStep w moment b other → (a ≡ b) × (new ≡ other)
      passes_one moment (removed, c, step, is) (removed', c', step', is') =
          let same = one_answer w.coordinator (Tick moment) (Done removed') (Done removed) c' c step' step in
          said _ _ a b new other is
          (subst (λ (x : Coordinator). Comes (IsRemoved removed) (with_coordinator (record w { clock = moment }) x) b other) same.1
          (subst (λ n. Comes (IsRemoved n) (with_coordinator (record w { clock = moment }) c') b other) (ap number_of same.0) is'))

      sees_one : (image : Topics) → SeesStep w image a new → SeesStep w image b other → (a ≡ b) × (new ≡ other)
      sees_one image (c, step, is) (c', step', is') =
          let same = one_answer w.coordinator (Image image) (Done 0) (Done 0) c' c step' step in
          said _ _ a b new other is (subst (λ (x : Coordinator). Comes IsDone (with_coordinator w x) b other) same.1 is')

module _ (one_body : OneBodyARequest) (one_request : OneRequestABody) (one_reply : OneReplyABody) (one_answer : OneAnswer) (one_outcome : OneOutcomeAReply) where
  pub one_act : OneOutcomeAnAct
  one_act w (Asks n ask) a b new other one two = asks_step_one w a b new other one_body (numbered w.clients n) n ask one two
  one_act w (GivesUp n) a b new other one two = gives_up_one w a b new other (numbered w.clients n) n one two
  one_act w (Deliver k) a b new other one two = deliver_one w a b new other one_reply one_answer one_request (numbered w.requests k) one two
  one_act w (Take j) a b new other one two = take_step_one w a b new other one_outcome (numbered w.replies j) one two
  one_act w (Release n p) a b new other one two = release_one w a b new other (numbered w.clients n) n p one two
  one_act w (Commits n topics) a b new other one two = commits_step_one w a b new other one_body (numbered w.clients n) topics one two
  one_act w (Bring k) a b new other one two = bring_one w a b new other one_reply one_answer (numbered w.commits k) one two
  one_act w (Clock moment) a b new other one two = said _ _ a b new other one two
  one_act w (Passes moment) a b new other one two = passes_one w a b new other one_reply one_answer moment one two
  one_act w (Sees image) a b new other one two = sees_one w a b new other one_reply one_answer image one two

  pub one_run : OneRunOfActs
  one_run [] w [] [] new other one two = (refl, one ∙ sym two)
  one_run [] w (x ∷ a) b new other one two = absurd one
  one_run [] w [] (y ∷ b) new other one two = absurd two
  one_run (act ∷ acts) w [] b new other one two = absurd one
  one_run (act ∷ acts) w (x ∷ a) [] new other one two = absurd two
  one_run (act ∷ acts) w (x ∷ a) (y ∷ b) new other (middle, step, run) (middle', step', run') =
      let first = one_act w act y x middle' middle step' step in
      let rest = one_run acts middle a b new other run (subst (λ (m : World). Run m acts b other) first.1 run') in
      (λ i. sym first.0 i ∷ rest.0 i, rest.1)
