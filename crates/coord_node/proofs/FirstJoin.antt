-- A first join never closes.
use Rattle.std.proofs.Common.{◌≡◌, ◌≢◌, ℕ, ℤ, pos, Bool, true, false, ◌&&◌, ◌||◌, List, [], ◌∷◌, Option, Some, None, inl, inr, refl, sym, ap, subst, ◌∙◌, true≢false}
use Rattle.std.specs.FinMap as finite
use Rattle.std.specs.Ordering.{eq_by_cmp}
use Rattle.kip_msgs.specs.Values.{RequestValue, HeartbeatRequestValue, RequestHeaderValue, heartbeat_request}
use Rattle.kip_msgs.specs.Laws.{OneRequestABody}
use Rattle.group_types.specs.declared.code.Code.{Code}
use Rattle.group_types.specs.declared.code.Code.TheVariants as codes
use Rattle.group_types.specs.declared.stamp.Stamp.{Stamp}
use Rattle.group_types.specs.Text.{Text, text_cmp}
use Rattle.group_types.specs.Request.{Heartbeat, Kind, Joins, kind_of, is_invalid, is_unsupported}
use Rattle.group_types.specs.Checks.{Refused, Overtaken, first_of, is_late, is_of_past, is_overtaken, is_too_many, is_unreleased, record_under, sender_of, verdict_on}
use Rattle.group_types.specs.HeartbeatStep.{Arrival}
use Rattle.group_types.specs.Group.{Group, Records, Past, new_group}
use Rattle.group_types.specs.Sound.{IsPast}
use Rattle.group_types.specs.HeartbeatStep as group
use Rattle.group_types.proofs.Answering.{closes_when_overtaken}
use Rattle.group_types.proofs.Lookups.{same_text}
use Rattle.group_epochs.specs.Request.{arrival_of}
use Rattle.coord_node.specs.Coordinator.{Coordinator, Answer, Replied, Closes, Done}
use Rattle.coord_node.specs.Steps.{is_success, has_room, Makes, MakesBy, HeartbeatAt, Sends, message_of, RequestRelation, IsRequest, RequestStep, FrameStepBy, Step}
use Rattle.coord_node.specs.Laws.{IsFirstJoin, AnswersFirstJoins}

-- an answer that replies
abbrev Replies : group.Answer → Type 0
Replies (group.Replied r) = Unit {0}
Replies group.Closes = ⊥

replied : (a : group.Answer) (r : group.Reply) → a ≡ group.Replied r → Replies a
replied a r is = subst Replies (sym is) tt

-- ---- one group: who has no id was never overtaken

-- nobody of the past has the empty id
not_of_past : (records : Records) (past : Past) (m : Text) (stamp : Stamp) → IsPast records past → m ≡ [] → is_of_past past m stamp ≡ false
not_of_past records [] m stamp is empty = refl
not_of_past records (e ∷ past) m stamp is empty =
    let rest = not_of_past records past m stamp is.3 empty in
    by (eq_by_cmp text_cmp m e.0) refl rest
  where
    by : (b : Bool) → eq_by_cmp text_cmp m e.0 ≡ b → is_of_past past m stamp ≡ false → ((b && is_late stamp e.1) || is_of_past past m stamp) ≡ false
    by true same rest = absurd (is.1 (sym (same_text m e.0 same) ∙ empty))
    by false apart rest = rest

-- of these checks one alone says that the heartbeat was overtaken
another_check : (a b overtaken d e : Bool) (first second fourth fifth : Code) → overtaken ≡ false
    → first_of ((a, Refused first) ∷ (b, Refused second) ∷ (overtaken, Overtaken) ∷ (d, Refused fourth) ∷ (e, Refused fifth) ∷ []) ≢ Overtaken
another_check true b overtaken d e first second fourth fifth isnt = λ is. cc
another_check false true overtaken d e first second fourth fifth isnt = λ is. cc
another_check false false true d e first second fourth fifth isnt = absurd (true≢false isnt)
another_check false false false true e first second fourth fifth isnt = λ is. cc
another_check false false false false true first second fourth fifth isnt = λ is. cc
another_check false false false false false first second fourth fifth isnt = λ is. cc

not_overtaken : (g : Group) (q : Heartbeat) (stamp : Stamp) → IsPast g.records g.past → q.epoch ≡ pos 0 → q.member ≡ []
    → verdict_on (kind_of q.epoch) (sender_of g.records q) g q stamp ≢ Overtaken
not_overtaken g q stamp past joins empty =
    let own : is_overtaken stamp (sender_of g.records q).own ≡ false = ap (λ m. is_overtaken stamp (record_under g.records m)) empty in
    let former = not_of_past g.records g.past q.member stamp past empty in
    let neither : (is_overtaken stamp (sender_of g.records q).own || is_of_past g.past q.member stamp) ≡ false =
    ap (λ b. b || is_of_past g.past q.member stamp) own ∙ former in
    let kind : kind_of q.epoch ≡ Joins = ap kind_of joins in
    subst (λ (k : Kind). verdict_on k (sender_of g.records q) g q stamp ≢ Overtaken) (sym kind) (another_check (is_invalid q) (is_unsupported q) _ (is_unreleased (sender_of g.records q).own (sender_of g.records q).other)
    (is_too_many (sender_of g.records q).own (sender_of g.records q).other (finite.len g.records))
    codes.InvalidRequest codes.UnsupportedAssignor codes.UnreleasedInstanceId codes.GroupMaxSizeReached neither)

step_replies : (g : Group) (h : Arrival) (a : group.Answer) (n : Group) → IsPast g.records g.past → h.heartbeat.epoch ≡ pos 0 → h.heartbeat.member ≡ []
    → group.HeartbeatStep g h a n → Replies a
step_replies g h a n past joins empty step = by a refl
  where
    by : (answer : group.Answer) → a ≡ answer → Replies a
    by (group.Replied r) is = replied a r is
    by group.Closes is = absurd (not_overtaken g h.heartbeat h.stamp past joins empty (closes_when_overtaken g h a n step is).0)

-- ---- the node

made : (success room : Bool) (c : Coordinator) (name : List ℕ) (g : Group) (r : group.Reply) (a : group.Answer) (n : Coordinator)
    → Makes success room c (record { name = name; left = g; reply = r }) a n → Replies a
made true true c name g r a n step = replied a _ step.0
made true false c name g r a n step = replied a _ step.0
made false room c name g r a n step = replied a _ step.0

made_by : (given : group.Answer) (c : Coordinator) (name : List ℕ) (g : Group) (a : group.Answer) (n : Coordinator)
    → Replies given → MakesBy given c name g a n → Replies a
made_by (group.Replied r) c name g a n replies step = made (is_success r.code) (has_room c) c name g r a n step
made_by group.Closes c name g a n replies step = absurd replies

-- a reply is sent as bytes
sent : (correlation : ℤ) (given : group.Answer) (answer : Answer) → Replies given → Sends (message_of correlation given) answer → answer ≢ Closes
sent correlation (group.Replied r) (Replied bytes) replies sends = λ is. cc
sent correlation (group.Replied r) Closes replies sends = absurd sends
sent correlation (group.Replied r) (Done k) replies sends = absurd sends
sent correlation group.Closes answer replies sends = absurd replies

module _ (c : Coordinator) (v : HeartbeatRequestValue) (stamp : Stamp) (moment : ℕ) (given : group.Answer) (new : Coordinator) (first : IsFirstJoin c v) where
  abbrev TheArrival : Arrival
  TheArrival = arrival_of v stamp moment c.image

  node_replies : HeartbeatAt (finite.get c.groups v.group_id) c TheArrival given new → Replies given
  node_replies step = by (finite.get c.groups v.group_id) refl step
    where
      by : (there : Option Group) → finite.get c.groups v.group_id ≡ there → HeartbeatAt there c TheArrival given new → Replies given
      by None is at =
          made_by at.0 c v.group_id at.1 given new (step_replies (new_group c.salt) TheArrival at.0 at.1 tt first.epoch first.member at.2) at.3
      by (Some g) is at = step_replies g TheArrival given at.0 (first.sound g is).past first.epoch first.member at.1

-- ---- the frame

module _ (one_request : OneRequestABody) where
  -- the request that a body spells is the one that answers it
  framed : (Requests : RequestRelation) (c : Coordinator) (header : RequestHeaderValue) (v : HeartbeatRequestValue) (body : List ℕ) (stamp : Stamp)
      (moment : ℕ) (answer : Answer) (new : Coordinator) → IsRequest (heartbeat_request header v) body
      → (Requests c (heartbeat_request header v) stamp moment answer new → answer ≢ Closes)
      → FrameStepBy Requests c body stamp moment answer new → answer ≢ Closes
  framed Requests c header v body stamp moment answer new request answers (inl step) =
      let same : step.0 ≡ heartbeat_request header v = one_request step.0 (heartbeat_request header v) body step.1.spells request.spells in
      answers (subst (λ (x : RequestValue). Requests c x stamp moment answer new) same step.2)
  framed Requests c header v body stamp moment answer new request answers (inr step) =
      absurd (step.0 (heartbeat_request header v) request)

  pub answers_first_joins : AnswersFirstJoins Step
  answers_first_joins c header v body stamp moment answer new request first step =
      framed RequestStep c header v body stamp moment answer new request
      (λ at. sent header.correlation_id at.0 answer (node_replies c v stamp moment at.0 new first at.1) at.2) step
