-- A node's groups, each by itself: what a step does to a group, and what a run comes to in it (KIP-848, "Group Coordinator").
use Rattle.std.specs.Prelude.{◌≡◌, ◌≢◌, ℕ, List, Option, Some}
use Rattle.std.specs.FinMap as finite
use Rattle.kip_msgs.specs.Values.{CommitRequestValue, HeartbeatRequestValue, RequestHeaderValue, commit_request, heartbeat_request}
use Rattle.group_types.specs.declared.stamp.Stamp.{Stamp}
use Rattle.group_types.specs.Text.{Text}
use Rattle.group_types.specs.Topics.{Topics}
use Rattle.group_types.specs.Group.{Group, new_group}
use Rattle.group_types.specs.Laws.{GroupEvent, IsGroupRun}
use Rattle.coord_node.specs.Coordinator.{Answer, Coordinator, Event, Frame, Image, opening}
use Rattle.coord_node.specs.Steps.{EventRelation, IsRequest, Run}

-- a body is no request to a group
pub record IsOfOthers (name : Text) (body : List ℕ) : Type 0 where
  pub heartbeats : (header : RequestHeaderValue) (v : HeartbeatRequestValue) → IsRequest (heartbeat_request header v) body → v.group_id ≢ name
  pub commits : (header : RequestHeaderValue) (v : CommitRequestValue) → IsRequest (commit_request header v) body → v.group_id ≢ name

-- A frame leaves each group as it was that it isn't a request to, and a new image leaves all. (Of ticks: TicksAreOfAllGroups.)
pub record LeavesOthers (Steps : EventRelation) : Type 0 where
  pub frames : (c : Coordinator) (body : List ℕ) (stamp : Stamp) (moment : ℕ) (answer : Answer) (new : Coordinator)
      → Steps c (Frame body stamp moment) answer new → (name : Text) → IsOfOthers name body
      → finite.get new.groups name ≡ finite.get c.groups name
  pub images : (c : Coordinator) (topics : Topics) (answer : Answer) (new : Coordinator)
      → Steps c (Image topics) answer new → new.groups ≡ c.groups

abbrev pub StepsLeaveOtherGroups : EventRelation → Type 0
StepsLeaveOtherGroups Steps = LeavesOthers Steps

-- whatever came to a node since its opening: each of its groups is what a run of that group alone comes to, from a new one
abbrev pub NodeRunsAreGroupRuns : Type 0
NodeRunsAreGroupRuns =
    (salt : ℕ) (events : List Event) (answers : List Answer) (c : Coordinator) → Run (opening salt) events answers c
    → (name : Text) (g : Group) → finite.get c.groups name ≡ Some g
    → (own : List GroupEvent) × IsGroupRun (new_group salt) own g
