-- The topics of a coordinator go on to be an image's: they are the former ones, or those of a new image.
use Rattle.std.proofs.Common.{◌≡◌, ℕ, Bool, true, false, List, Option, Some, None, inl, inr, sym, ap, subst}
use Rattle.kip_msgs.specs.Values.{RequestValue, heartbeat_request, commit_request}
use Rattle.group_types.specs.declared.stamp.Stamp.{Stamp}
use Rattle.group_types.specs.Images.{AreImageTopics}
use Rattle.group_types.specs.Group.{Group}
use Rattle.group_types.specs.Commit.{Commit, CommitReply}
use Rattle.group_types.specs.HeartbeatStep.{Arrival}
use Rattle.group_types.specs.HeartbeatStep as group
use Rattle.coord_node.specs.Coordinator.{Coordinator, Event, Frame, Tick, Image, Answer}
use Rattle.coord_node.specs.Steps.{is_success, has_room, Makes, MakesBy, HeartbeatAt, CommitAt, RequestStep, FrameStepBy, Step}

heartbeat_image : (there : Option Group) (c : Coordinator) (h : Arrival) (a : group.Answer) (n : Coordinator) → HeartbeatAt there c h a n → n.image ≡ c.image
heartbeat_image None c h a n is = made_image is.0 is.3
  where
    makes_image : (success room : Bool) (reply : group.Reply) → Makes success room c (record { name = h.heartbeat.group; left = is.1; reply = reply }) a n → n.image ≡ c.image
    makes_image true true reply made = ap (λ (x : Coordinator). x.image) made.1
    makes_image true false reply made = ap (λ (x : Coordinator). x.image) made.1
    makes_image false room reply made = ap (λ (x : Coordinator). x.image) made.1

    made_image : (given : group.Answer) → MakesBy given c h.heartbeat.group is.1 a n → n.image ≡ c.image
    made_image (group.Replied reply) made = makes_image (is_success reply.code) (has_room c) reply made
    made_image group.Closes made = ap (λ (x : Coordinator). x.image) made.1
heartbeat_image (Some g) c h a n is = ap (λ (x : Coordinator). x.image) is.2

commit_image : (there : Option Group) (c : Coordinator) (r : Commit) (reply : CommitReply) (n : Coordinator) → CommitAt there c r reply n → n.image ≡ c.image
commit_image None c r reply n is = ap (λ (x : Coordinator). x.image) is.1
commit_image (Some g) c r reply n is = ap (λ (x : Coordinator). x.image) is.2

request_image : (c : Coordinator) (v : RequestValue) (stamp : Stamp) (moment : ℕ) (a : Answer) (n : Coordinator) → RequestStep c v stamp moment a n → n.image ≡ c.image
request_image c (heartbeat_request header v) stamp moment a n is = heartbeat_image _ c _ is.0 n is.1
request_image c (commit_request header v) stamp moment a n is = commit_image _ c _ is.0 n is.1

frame_image : (c : Coordinator) (body : List ℕ) (stamp : Stamp) (moment : ℕ) (a : Answer) (n : Coordinator) → AreImageTopics c.image → FrameStepBy RequestStep c body stamp moment a n → AreImageTopics n.image
frame_image c body stamp moment a n image (inl is) = subst AreImageTopics (sym (request_image c is.0 stamp moment a n is.2)) image
frame_image c body stamp moment a n image (inr is) = subst (λ (x : Coordinator). AreImageTopics x.image) (sym is.2) image

pub image_kept : (c : Coordinator) (event : Event) (a : Answer) (n : Coordinator) → AreImageTopics c.image → Step c event a n → AreImageTopics n.image
image_kept c (Frame body stamp moment) a n image is = frame_image c body stamp moment a n image is
image_kept c (Tick moment) a n image is = subst (λ (x : Coordinator). AreImageTopics x.image) (sym is.1) image
image_kept c (Image topics) a n image is = subst (λ (x : Coordinator). AreImageTopics x.image) (sym is.1) is.2
