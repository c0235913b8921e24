-- From what a node did to the coordinator's step.
use Rattle.std.proofs.Common.{le-ltb, inl, ◌≡◌, ℕ, ◌≤◌, ◌<◌, ℤ, Bool, true, false, List, ◌++◌, Option, Some, None, refl, sym, ap, subst, ◌∙◌, append-nil, true≢false}
use Rattle.std.specs.FinMap as finite
use Rattle.std.proofs.lemmas.Bool.Decides.{Decides-ltb}
use Rattle.group_types.specs.declared.code.Code.TheVariants.{CoordinatorNotAvailable}
use Rattle.group_types.specs.Limits.{MOST_GROUPS}
use Rattle.group_types.specs.declared.stamp.Stamp.{Stamp}
use Rattle.group_types.specs.HeartbeatStep.{Arrival}
use Rattle.group_types.specs.Group.{Group, new_group}
use Rattle.group_types.specs.HeartbeatStep as group
use Rattle.kip_msgs.specs.Values.{RequestHeaderValue, HeartbeatRequestValue, RequestValue, heartbeat_request}
use Rattle.group_epochs.specs.Request.{arrival_of}
use Rattle.coord_node.specs.declared.event.Answered.{Answered}
use Rattle.coord_node.specs.declared.event.Answered.TheVariants as answered
use Rattle.coord_node.specs.Replies.{IsReplyFrame, reply_value}
use Rattle.coord_node.specs.Coordinator.{Coordinator, Groups, Frame, Replied, Closes}
use Rattle.coord_node.specs.Steps.{has_room, with_group, Makes, MakesBy, HeartbeatAt, Sends, message_of, IsRequest}
use Rattle.coord_node.specs.Answers.{Answers, IsSent, AnswersHeartbeat, AnswersRequest, succeeds}
use Rattle.coord_node.specs.declared.kept.Kept.{Kept}
use Rattle.coord_node.specs.NodeView.{Entries, IsAdmitted, fails, kept, full, groups_of}
use Rattle.coord_node.proofs.GroupLemmas.{as_map-push}

-- a frame was appended
pub sent_reply : (correlation passed : ℤ) (r : group.Reply) (before after : List ℕ) → passed ≡ correlation
    → (frame : List ℕ) × IsReplyFrame (reply_value passed r) frame × (after ≡ before ++ frame)
    → IsSent correlation (group.Replied r) answered.Replied before after
sent_reply correlation passed r before after is sent =
    record {
      answer = Replied sent.0;
      is_answered = tt;
      sends = subst (λ (n : ℤ). IsReplyFrame (reply_value n r) sent.0) is sent.1;
      bytes = sent.2;
    }

-- nothing was appended
pub sent_nothing : (correlation : ℤ) (bytes : List ℕ) → IsSent correlation group.Closes answered.Closes bytes bytes
sent_nothing correlation bytes =
    record { answer = Closes; is_answered = tt; sends = tt; bytes = sym (append-nil bytes) }

-- ---- a group that is there

pub at_present : (c : Coordinator) (h : Arrival) (g after : Group) → finite.get c.groups h.heartbeat.group ≡ Some g
    → (given : group.Answer) (new : Coordinator) → group.HeartbeatStep g h given after → new ≡ with_group c h.heartbeat.group after
    → HeartbeatAt (finite.get c.groups h.heartbeat.group) c h given new
at_present c h g after there given new step is =
    subst (λ (found : Option Group). HeartbeatAt found c h given new) (sym there) (after, step, is)

-- ---- a new group

module _ (c : Coordinator) (name : List ℕ) (g : Group) where
  -- it isn't kept where it gives no success
  makes_nothing : (given : group.Answer) → succeeds given ≡ false → MakesBy given c name g given c
  makes_nothing (group.Replied r) fail =
      subst (λ (b : Bool). Makes b (has_room c) c (record { name = name; left = g; reply = r }) (group.Replied r) c) (sym fail) (refl, refl)
  makes_nothing group.Closes fail = (refl, refl)

  -- nor where the node is full
  makes_no_more : (given : group.Answer) (refused : group.Reply) → succeeds given ≡ true → MOST_GROUPS ≤ finite.len c.groups
      → refused ≡ group.refusal CoordinatorNotAvailable → MakesBy given c name g (group.Replied refused) c
  makes_no_more (group.Replied r) refused success most is =
      let made : Makes true false c (record { name = name; left = g; reply = r }) (group.Replied refused) c = (ap group.Replied is, refl) in
      let by_room : Makes true (has_room c) c (record { name = name; left = g; reply = r }) (group.Replied refused) c =
      subst (λ (b : Bool). Makes true b c (record { name = name; left = g; reply = r }) (group.Replied refused) c) (sym (le-ltb (finite.len c.groups) MOST_GROUPS most)) made in
      subst (λ (b : Bool). Makes b (has_room c) c (record { name = name; left = g; reply = r }) (group.Replied refused) c) (sym success) by_room
  makes_no_more group.Closes refused success most is = absurd (true≢false (sym success))

  makes_one_more : (given : group.Answer) (new : Coordinator) → succeeds given ≡ true → finite.len c.groups < MOST_GROUPS
      → new ≡ with_group c name g → MakesBy given c name g given new
  makes_one_more (group.Replied r) new success less is =
      let made : Makes true true c (record { name = name; left = g; reply = r }) (group.Replied r) new = (refl, is) in
      let by_room : Makes true (has_room c) c (record { name = name; left = g; reply = r }) (group.Replied r) new =
      subst (λ (b : Bool). Makes true b c (record { name = name; left = g; reply = r }) (group.Replied r) new) (sym ((Decides-ltb (finite.len c.groups) MOST_GROUPS).1 less)) made in
      subst (λ (b : Bool). Makes b (has_room c) c (record { name = name; left = g; reply = r }) (group.Replied r) new) (sym success) by_room
  makes_one_more group.Closes new success less is = absurd (true≢false (sym success))

module _ (c : Coordinator) (h : Arrival) (absent : finite.get c.groups h.heartbeat.group ≡ None) (g : Group) where
  -- what a new group answers is the step
  pub at_absent : (opened : Group) (given answer : group.Answer) (new : Coordinator) → opened ≡ new_group c.salt
      → group.HeartbeatStep opened h given g → MakesBy given c h.heartbeat.group g answer new
      → HeartbeatAt (finite.get c.groups h.heartbeat.group) c h answer new
  at_absent opened given answer new is step makes =
      subst (λ (there : Option Group). HeartbeatAt there c h answer new) (sym absent)
      (given, g, subst (λ (x : Group). group.HeartbeatStep x h given g) is step, makes)

module _ (c : Coordinator) (h : Arrival) (absent : finite.get c.groups h.heartbeat.group ≡ None) where
  -- a new group, once it is kept or not
  pub at_admission : (opened : Group) (k : Kept) (given answer : group.Answer) (old entries : Entries) → opened ≡ new_group c.salt
      → group.HeartbeatStep opened h given k.group.state → groups_of old ≡ c.groups
      → IsAdmitted old h.heartbeat.group k given answer entries → HeartbeatAt (finite.get c.groups h.heartbeat.group) c h answer (record c { groups = groups_of entries })
  at_admission opened k given answer old entries is step same (fails no_success unchanged answers) =
      let new : groups_of entries ≡ c.groups = ap groups_of unchanged ∙ same in
      subst (λ (m : Groups). HeartbeatAt (finite.get c.groups h.heartbeat.group) c h answer (record c { groups = m })) (sym new)
      (subst (λ (a : group.Answer). HeartbeatAt (finite.get c.groups h.heartbeat.group) c h a c) (sym answers)
      (at_absent c h absent k.group.state opened given given c is step (makes_nothing c h.heartbeat.group k.group.state given no_success)))
  at_admission opened k given answer old entries is step same (kept success room more answers) =
      let none : finite.get (groups_of old) h.heartbeat.group ≡ None = ap (λ (m : Groups). finite.get m h.heartbeat.group) same ∙ absent in
      let new : groups_of entries ≡ finite.insert c.groups h.heartbeat.group k.group.state =
      ap groups_of more.entries ∙ as_map-push (λ (x : Kept). x.group.state) old more.key k h.heartbeat.group more.named none
      ∙ ap (λ (m : Groups). finite.insert m h.heartbeat.group k.group.state) same in
      let less : finite.len c.groups < MOST_GROUPS = subst (λ (m : Groups). finite.len m < MOST_GROUPS) same room in
      subst (λ (a : group.Answer). HeartbeatAt (finite.get c.groups h.heartbeat.group) c h a (record c { groups = groups_of entries })) (sym answers)
      (at_absent c h absent k.group.state opened given given (record c { groups = groups_of entries }) is step
      (makes_one_more c h.heartbeat.group k.group.state given (record c { groups = groups_of entries }) success less
      (ap (λ (m : Groups). let n : Coordinator = record c { groups = m } in n) new)))
  at_admission opened k given answer old entries is step same (full success most unchanged answers) =
      let new : groups_of entries ≡ c.groups = ap groups_of unchanged ∙ same in
      let more : MOST_GROUPS ≤ finite.len c.groups = subst (λ (m : Groups). MOST_GROUPS ≤ finite.len m) same most in
      subst (λ (m : Groups). HeartbeatAt (finite.get c.groups h.heartbeat.group) c h answer (record c { groups = m })) (sym new)
      (subst (λ (a : group.Answer). HeartbeatAt (finite.get c.groups h.heartbeat.group) c h a c) (sym answers)
      (at_absent c h absent k.group.state opened given (group.Replied (group.refusal CoordinatorNotAvailable)) c is step
      (makes_no_more c h.heartbeat.group k.group.state given (group.refusal CoordinatorNotAvailable) success more refl)))

-- ---- a request, and a frame

pub request_of_heartbeat : (c new : Coordinator) (header : RequestHeaderValue) (v : HeartbeatRequestValue) (passed : ℤ) (stamp : Stamp) (moment : ℕ) (kind : Answered) (before after : List ℕ)
    → passed ≡ header.correlation_id → AnswersHeartbeat c passed (arrival_of v stamp moment c.image) kind new before after
    → AnswersRequest c (heartbeat_request header v) stamp moment kind new before after
request_of_heartbeat c new header v passed stamp moment kind before after is done =
    record {
      answer = done.sent.answer;
      is_answered = done.sent.is_answered;
      step = (done.given, done.step, subst (λ (n : ℤ). Sends (message_of n done.given) done.sent.answer) is done.sent.sends);
      bytes = done.sent.bytes;
    }

pub frame_of_request : (c new : Coordinator) (v : RequestValue) (body : List ℕ) (stamp : Stamp) (moment : ℕ) (kind : Answered) (before after : List ℕ)
    → IsRequest v body → AnswersRequest c v stamp moment kind new before after
    → Answers c (Frame body stamp moment) kind new before after
frame_of_request c new v body stamp moment kind before after is done =
    record { answer = done.answer; is_answered = done.is_answered; step = inl (v, is, done.step); bytes = done.bytes }
