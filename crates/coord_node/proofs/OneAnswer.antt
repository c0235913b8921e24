-- An event has one answer in a node, and leaves one node.
use Rattle.std.proofs.Common.{◌≡◌, ℕ, Bool, true, false, List, ◌++◌, length, Option, Some, None, inl, inr, pos, refl, sym, ap, subst, ◌∙◌}
use Rattle.std.specs.FinMap as finite
use Rattle.flex_wire.specs.Spelling.{int32}
use Rattle.kip_msgs.specs.Values.{RequestValue, ReplyValue, heartbeat_request, commit_request}
use Rattle.kip_msgs.specs.Laws.{OneRequestABody}
use Rattle.group_types.specs.declared.stamp.Stamp.{Stamp}
use Rattle.group_types.specs.HeartbeatStep.{Arrival}
use Rattle.group_types.specs.Commit.{Commit, CommitReply}
use Rattle.group_types.specs.Group.{Group, new_group}
use Rattle.group_types.specs.HeartbeatStep as group
use Rattle.group_epochs.specs.Request.{arrival_of, commit_of}
use Rattle.group_core.specs.Laws.{HasOneAnswer}
use Rattle.coord_node.specs.Replies.{IsReplyFrame, commit_value}
use Rattle.coord_node.specs.Coordinator.{Coordinator, Event, Frame, Tick, Image, Answer, Replied, Closes, Done}
use Rattle.coord_node.specs.Steps.{is_success, has_room, Makes, MakesBy, HeartbeatAt, CommitAt, Sends, message_of, with_group, RequestStep, FrameStepBy, Step}

-- a reply has one frame
same_frame : (v : ReplyValue) (f g : List ℕ) → IsReplyFrame v f → IsReplyFrame v g → f ≡ g
same_frame v f g one other =
    let body : one.body ≡ other.body = one.spells.bytes ∙ sym other.spells.bytes in
    one.framed.bytes ∙ ap (λ (b : List ℕ). int32 (pos (length b)) ++ b) body ∙ sym other.framed.bytes

same_sent : (message : Option ReplyValue) (a b : Answer) → Sends message a → Sends message b → a ≡ b
same_sent (Some v) (Replied f) (Replied g) one other = ap Replied (same_frame v f g one other)
same_sent (Some v) (Replied f) Closes one other = absurd other
same_sent (Some v) (Replied f) (Done k) one other = absurd other
same_sent (Some v) Closes b one other = absurd one
same_sent (Some v) (Done k) b one other = absurd one
same_sent None (Replied f) b one other = absurd one
same_sent None Closes (Replied g) one other = absurd other
same_sent None Closes Closes one other = refl
same_sent None Closes (Done k) one other = absurd other
same_sent None (Done k) b one other = absurd one

same_makes : (success room : Bool) (c : Coordinator) (name : List ℕ) (g : Group) (r : group.Reply) (a b : group.Answer) (n o : Coordinator)
    → Makes success room c (record { name = name; left = g; reply = r }) a n → Makes success room c (record { name = name; left = g; reply = r }) b o → (a ≡ b) × (n ≡ o)
same_makes true true c name g r a b n o one other = (one.0 ∙ sym other.0, one.1 ∙ sym other.1)
same_makes true false c name g r a b n o one other = (one.0 ∙ sym other.0, one.1 ∙ sym other.1)
same_makes false room c name g r a b n o one other = (one.0 ∙ sym other.0, one.1 ∙ sym other.1)

same_made : (given : group.Answer) (c : Coordinator) (name : List ℕ) (g : Group) (a b : group.Answer) (n o : Coordinator)
    → MakesBy given c name g a n → MakesBy given c name g b o → (a ≡ b) × (n ≡ o)
same_made (group.Replied r) c name g a b n o one other = same_makes (is_success r.code) (has_room c) c name g r a b n o one other
same_made group.Closes c name g a b n o one other = (one.0 ∙ sym other.0, one.1 ∙ sym other.1)

-- a commit is answered by what it says and the group has
same_commit : (there : Option Group) (c : Coordinator) (r : Commit) (a b : CommitReply) (n o : Coordinator)
    → CommitAt there c r a n → CommitAt there c r b o → (a ≡ b) × (n ≡ o)
same_commit None c r a b n o one other = (one.0 ∙ sym other.0, one.1 ∙ sym other.1)
same_commit (Some g) c r a b n o one other =
    let after : one.0 ≡ other.0 = one.1.stores ∙ sym other.1.stores in
    (one.1.answers ∙ sym other.1.answers, one.2 ∙ ap (with_group c r.group) after ∙ sym other.2)

module _ (one_request : OneRequestABody) (one_heartbeat : HasOneAnswer) where
  same_at : (there : Option Group) (c : Coordinator) (h : Arrival) (a b : group.Answer) (n o : Coordinator)
      → HeartbeatAt there c h a n → HeartbeatAt there c h b o → (a ≡ b) × (n ≡ o)
  same_at (Some g) c h a b n o one other =
      let same = one_heartbeat g h a b one.0 other.0 one.1 other.1 in
      (same.0, one.2 ∙ ap (with_group c h.heartbeat.group) same.1 ∙ sym other.2)
  same_at None c h a b n o one other =
      let same = one_heartbeat (new_group c.salt) h one.0 other.0 one.1 other.1 one.2 other.2 in
      let given : one.0 ≡ other.0 = same.0 in
      let left : one.1 ≡ other.1 = same.1 in
      let by_answer : MakesBy one.0 c h.heartbeat.group other.1 b o = subst (λ (x : group.Answer). MakesBy x c h.heartbeat.group other.1 b o) (sym given) other.3 in
      let by_group : MakesBy one.0 c h.heartbeat.group one.1 b o = subst (λ (x : Group). MakesBy one.0 c h.heartbeat.group x b o) (sym left) by_answer in
      same_made one.0 c h.heartbeat.group one.1 a b n o one.3 by_group

  same_request : (c : Coordinator) (v : RequestValue) (stamp : Stamp) (moment : ℕ) (a b : Answer) (n o : Coordinator)
      → RequestStep c v stamp moment a n → RequestStep c v stamp moment b o → (a ≡ b) × (n ≡ o)
  same_request c (heartbeat_request header v) stamp moment a b n o one other =
      let same = same_at (finite.get c.groups v.group_id) c (arrival_of v stamp moment c.image) one.0 other.0 n o one.1 other.1 in
      let given : one.0 ≡ other.0 = same.0 in
      let sent : Sends (message_of header.correlation_id one.0) b = subst (λ (x : group.Answer). Sends (message_of header.correlation_id x) b) (sym given) other.2 in
      (same_sent (message_of header.correlation_id one.0) a b one.2 sent, same.1)
  same_request c (commit_request header v) stamp moment a b n o one other =
      let same = same_commit (finite.get c.groups v.group_id) c (commit_of v) one.0 other.0 n o one.1 other.1 in
      let replied : one.0 ≡ other.0 = same.0 in
      let sent : Sends (Some (commit_value header.correlation_id one.0)) b = subst (λ (x : CommitReply). Sends (Some (commit_value header.correlation_id x)) b) (sym replied) other.2 in
      (same_sent (Some (commit_value header.correlation_id one.0)) a b one.2 sent, same.1)

  same_answer : (c : Coordinator) (body : List ℕ) (stamp : Stamp) (moment : ℕ) (a b : Answer) (n o : Coordinator)
      → FrameStepBy RequestStep c body stamp moment a n → FrameStepBy RequestStep c body stamp moment b o → (a ≡ b) × (n ≡ o)
  same_answer c body stamp moment a b n o (inl one) (inl other) =
      let v : one.0 ≡ other.0 = one_request one.0 other.0 body one.1.spells other.1.spells in
      let step : RequestStep c one.0 stamp moment b o = subst (λ (x : RequestValue). RequestStep c x stamp moment b o) (sym v) other.2 in
      same_request c one.0 stamp moment a b n o one.2 step
  same_answer c body stamp moment a b n o (inl one) (inr other) = absurd (other.0 one.0 one.1)
  same_answer c body stamp moment a b n o (inr one) (inl other) = absurd (one.0 other.0 other.1)
  same_answer c body stamp moment a b n o (inr one) (inr other) = (one.1 ∙ sym other.1, one.2 ∙ sym other.2)

  pub same_step : (c : Coordinator) (event : Event) (a b : Answer) (n o : Coordinator) → Step c event a n → Step c event b o → (a ≡ b) × (n ≡ o)
  same_step c (Frame body stamp moment) a b n o one other = same_answer c body stamp moment a b n o one other
  same_step c (Tick moment) a b n o one other = (one.0 ∙ sym other.0, one.1 ∙ sym other.1)
  same_step c (Image topics) a b n o one other = (one.0 ∙ sym other.0, one.1 ∙ sym other.1)
