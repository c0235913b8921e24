-- What becomes of messages that the coordinator answers.
use Rattle.std.proofs.Common.{◌≡◌, ℕ, suc, ◌≤◌, false, List, [], ◌++◌, length, drop, Some, refl, sym, ap, subst, ◌∙◌, inl, inr, zero-lt-suc}
use Rattle.flex_wire.specs.Spelling.{signed}
use Rattle.kip_msgs.specs.Values.{RequestHeaderValue, HeartbeatRequestValue, ResponseHeaderValue, HeartbeatReplyValue, RequestValue, heartbeat_request, commit_request, commit_reply}
use Rattle.kip_msgs.specs.Values.{CommitRequestValue}
use Rattle.kip_msgs.specs.Spelling.{SpellsRequest, SpellsReply, request_body, request_header_fields}
use Rattle.kip_msgs.specs.Laws.{OneRequestABody}
use Rattle.group_types.specs.Limits.{LARGEST_BODY}
use Rattle.group_types.proofs.FrameLemmas.{frame_body}
use Rattle.group_types.specs.HeartbeatStep as group
use Rattle.offset_guard.specs.Replies.{commit_reply_value}
use Rattle.coord_node.specs.declared.event.Answered.TheVariants as kinds
use Rattle.coord_node.specs.Coordinator.{Coordinator, Answer, Frame, Replied, Closes, Done, bytes_of}
use Rattle.coord_node.specs.Replies.{heartbeat_reply_value}
use Rattle.coord_node.specs.Steps.{RequestStep, Sends, Step, message_of, IsRequest}
use Rattle.coord_node.specs.Answers as node
use Rattle.world_sim.specs.declared.shown.Shown.{Shown}
use Rattle.world_sim.specs.declared.shown.Shown.TheVariants as shows
use Rattle.world_sim.specs.World.{World, Request, Commit, with_coordinator, with_reply}
use Rattle.world_sim.specs.Acts.{Outcome, IsReplied, IsClosed, IsAnswered, Pools, BringStep, DeliversIf, no_stamp}
use Rattle.world_sim.specs.Acting.{IsShown}

-- a request is a heartbeat
abbrev pub IsHeartbeat : Request → Type 0
IsHeartbeat q = (header : RequestHeaderValue) × (v : HeartbeatRequestValue) × SpellsRequest (heartbeat_request header v) q.body

-- the coordinator answers a request at the clock, and the reply is kept
abbrev pub AnswersOne : Request → World → Shown → World → Type 0
AnswersOne q w shown new = (outcome : Outcome) × DeliversIf false w q outcome new × IsShown shown outcome

some_bytes : (header : RequestHeaderValue) (v : CommitRequestValue) → 1 ≤ length (request_body (commit_request header v))
unfolding request_body request_header_fields signed
some_bytes header v = zero-lt-suc _

-- a commit whose body fits a frame is a request
pub commit_is_request : (header : RequestHeaderValue) (v : CommitRequestValue) (body : List ℕ) → SpellsRequest (commit_request header v) body → length body ≤ LARGEST_BODY
    → IsRequest (commit_request header v) body
commit_is_request header v body spells most =
    record { is_body = (subst (λ (b : List ℕ). 1 ≤ length b) (sym spells.bytes) (some_bytes header v), most); spells = spells }

module _ (one_request : OneRequestABody) (w : World) where
  -- ---- a request

  module _ (q : Request) (header : RequestHeaderValue) (v : HeartbeatRequestValue) (spells : SpellsRequest (heartbeat_request header v) q.body) (c : Coordinator) where
    abbrev Kept : Answer → List ℕ → Type 0
    Kept answer bytes =
        (reply : HeartbeatReplyValue)
        × Pools (with_coordinator w c) q answer (IsReplied (suc (length w.replies)) reply) (with_reply (with_coordinator w c) (record { request = q; body = drop 4 bytes }))

    sent : (given : group.Answer) (bytes : List ℕ) → Sends (message_of header.correlation_id given) (Replied bytes) → Kept (Replied bytes) bytes
    sent (group.Replied r) bytes is = (
      heartbeat_reply_value r,
      (
        is.body,
        record { correlation_id = header.correlation_id; tags = [] },
        heartbeat_reply_value r,
        is.framed,
        is.spells,
        (refl, ap (λ (body : List ℕ). with_reply (with_coordinator w c) (record { request = q; body = body })) (frame_body is.body bytes is.framed)),
      ),
    )
    sent group.Closes bytes never = absurd never

    kept : (bytes : List ℕ) → Step w.coordinator (Frame q.body q.stamp w.clock) (Replied bytes) c → Kept (Replied bytes) bytes
    kept bytes (inl (other, is, step)) =
        let same : other ≡ heartbeat_request header v = one_request other (heartbeat_request header v) q.body is.spells spells in
        let mine : RequestStep w.coordinator (heartbeat_request header v) q.stamp w.clock (Replied bytes) c =
        subst (λ (x : RequestValue). RequestStep w.coordinator x q.stamp w.clock (Replied bytes) c) same step in
        sent mine.0 bytes mine.2
    kept bytes (inr (none, is, same)) = let never : Replied bytes ≡ Closes = is in absurd (cc)

  -- the code's answer to a request, and what is kept
  pub replied : (q : Request) → IsHeartbeat q → (c : Coordinator) (before after : List ℕ) → before ≡ []
      → node.Answers w.coordinator (Frame q.body q.stamp w.clock) kinds.Replied c before after
      → AnswersOne q w (shows.Replied (suc (length w.replies))) (with_reply (with_coordinator w c) (record { request = q; body = drop 4 after }))
  replied q (header, v, spells) c before after empty answers = by answers.answer answers.is_answered answers.step (answers.bytes ∙ ap (λ (b : List ℕ). b ++ bytes_of answers.answer) empty)
    where
      by : (answer : Answer) → node.IsAnswered kinds.Replied answer → Step w.coordinator (Frame q.body q.stamp w.clock) answer c → after ≡ bytes_of answer
          → AnswersOne q w (shows.Replied (suc (length w.replies))) (with_reply (with_coordinator w c) (record { request = q; body = drop 4 after }))
      by (Replied bytes) is step all =
          let one = kept q header v spells c bytes step in
          subst (λ (f : List ℕ). AnswersOne q w (shows.Replied (suc (length w.replies))) (with_reply (with_coordinator w c) (record { request = q; body = drop 4 f }))) (sym all)
          (IsReplied (suc (length w.replies)) one.0, (Replied bytes, c, step, one.1), (one.0, refl))
      by Closes never step all = absurd never
      by (Done n) never step all = absurd never

  pub closed : (q : Request) (c : Coordinator) (before after : List ℕ) → node.Answers w.coordinator (Frame q.body q.stamp w.clock) kinds.Closes c before after
      → AnswersOne q w shows.Closed (with_coordinator w c)
  closed q c before after answers = by answers.answer answers.is_answered answers.step
    where
      by : (answer : Answer) → node.IsAnswered kinds.Closes answer → Step w.coordinator (Frame q.body q.stamp w.clock) answer c → AnswersOne q w shows.Closed (with_coordinator w c)
      by (Replied bytes) never step = absurd never
      by Closes is step = (IsClosed, (Closes, c, step, (refl, refl)), refl)
      by (Done n) never step = absurd never

  -- ---- a commit

  module _ (k : Commit) (v : RequestValue) (is_request : IsRequest v k.body) (c : Coordinator) where
    -- it is answered
    pub never_closed : (before after : List ℕ) → node.Answers w.coordinator (Frame k.body no_stamp w.clock) kinds.Closes c before after
        → (header : RequestHeaderValue) (value : _) → v ≡ commit_request header value → ⊥
    never_closed before after answers header value is = by answers.answer answers.is_answered answers.step
      where
        by : (answer : Answer) → node.IsAnswered kinds.Closes answer → Step w.coordinator (Frame k.body no_stamp w.clock) answer c → ⊥
        by (Replied bytes) never step = never
        by Closes is_answered (inl (other, request, step)) =
            let same : other ≡ commit_request header value = one_request other v k.body request.spells is_request.spells ∙ is in
            let mine : RequestStep w.coordinator (commit_request header value) no_stamp w.clock Closes c =
            subst (λ (x : RequestValue). RequestStep w.coordinator x no_stamp w.clock Closes c) same step in
            mine.2
        by Closes is_answered (inr (none, closes, same)) = none v is_request
        by (Done n) never step = never

    pub answered : (before after : List ℕ) → before ≡ [] → node.Answers w.coordinator (Frame k.body no_stamp w.clock) kinds.Replied c before after
        → (header : RequestHeaderValue) (value : _) → v ≡ commit_request header value
        → (outcome : Outcome) × BringStep (Some k) w outcome (with_coordinator w c) × IsShown (shows.Answered (drop 4 after)) outcome
    answered before after empty answers header value is = by answers.answer answers.is_answered answers.step (answers.bytes ∙ ap (λ (b : List ℕ). b ++ bytes_of answers.answer) empty)
      where
        by : (answer : Answer) → node.IsAnswered kinds.Replied answer → Step w.coordinator (Frame k.body no_stamp w.clock) answer c → after ≡ bytes_of answer
            → (outcome : Outcome) × BringStep (Some k) w outcome (with_coordinator w c) × IsShown (shows.Answered (drop 4 after)) outcome
        by (Replied bytes) is_answered (inl (other, request, step)) all =
            let same : other ≡ commit_request header value = one_request other v k.body request.spells is_request.spells ∙ is in
            let mine : RequestStep w.coordinator (commit_request header value) no_stamp w.clock (Replied bytes) c =
            subst (λ (x : RequestValue). RequestStep w.coordinator x no_stamp w.clock (Replied bytes) c) same step in
            let sent = mine.2 in
            let head : ResponseHeaderValue = record { correlation_id = header.correlation_id; tags = [] } in
            let body : drop 4 after ≡ sent.body = ap (λ (f : List ℕ). drop 4 f) all ∙ frame_body sent.body bytes sent.framed in (
              IsAnswered (commit_reply_value mine.0),
              (Replied bytes, c, inl (other, request, step), (sent.body, head, commit_reply_value mine.0, sent.framed, sent.spells, (refl, refl))),
              (head, commit_reply_value mine.0, subst (λ (f : List ℕ). SpellsReply (commit_reply head (commit_reply_value mine.0)) f) (sym body) sent.spells, refl),
            )
        by (Replied bytes) is_answered (inr (none, closes, same)) all = absurd (none v is_request)
        by Closes never step all = absurd never
        by (Done n) never step all = absurd never
