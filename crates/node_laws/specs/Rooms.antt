-- How many groups a node may have (ours), and what it answers once it has as many.
use Rattle.std.specs.Prelude.{◌≡◌, ◌<◌, ◌≤◌, None}
use Rattle.std.specs.FinMap as finite
use Rattle.group_types.specs.declared.code.Code.TheVariants.{CoordinatorNotAvailable}
use Rattle.group_types.specs.Group.{Group, new_group}
use Rattle.group_types.specs.HeartbeatStep.{Arrival}
use Rattle.group_types.specs.HeartbeatStep as group
use Rattle.coord_node.specs.Coordinator.{Coordinator}
use Rattle.coord_node.specs.EachGroup.{Succeeds}
use Rattle.coord_node.specs.Steps.{HeartbeatAt}

-- What a new group answers that is no success; or COORDINATOR_NOT_AVAILABLE.
pub data IsTurnedAway (c : Coordinator) (a : Arrival) (answer : group.Answer) : Type 0 where
  as_a_new_group : (left : Group) → group.HeartbeatStep (new_group c.salt) a answer left → ¬ Succeeds answer → IsTurnedAway c a answer
  no_room : (reply : group.Reply) → answer ≡ group.Replied reply → reply.code ≡ CoordinatorNotAvailable → IsTurnedAway c a answer

-- A node answers for a group that isn't there what a new group answers, as long as it has fewer than 100,000 groups.
pub record GroupsAreMadeWhileThereIsRoom : Type 0 where
  pub room : (c : Coordinator) (a : Arrival) (answer : group.Answer) (new : Coordinator)
      → finite.get c.groups a.heartbeat.group ≡ None → finite.len c.groups < 100000 → HeartbeatAt None c a answer new
      → (left : Group) × group.HeartbeatStep (new_group c.salt) a answer left
  pub full : (c : Coordinator) (a : Arrival) (answer : group.Answer) (new : Coordinator)
      → finite.get c.groups a.heartbeat.group ≡ None → 100000 ≤ finite.len c.groups → HeartbeatAt None c a answer new → IsTurnedAway c a answer
