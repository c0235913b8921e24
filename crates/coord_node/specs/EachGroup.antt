-- What a node's steps do to each of its groups.
use Rattle.std.specs.Prelude.{◌≡◌, ℕ, Some, None, sum_by}
use Rattle.std.specs.Option.{option_map}
use Rattle.std.specs.FinMap as finite
use Rattle.group_types.specs.declared.code.Code.TheVariants.{NoError}
use Rattle.group_types.specs.Text.{Text}
use Rattle.group_types.specs.Group.{Group}
use Rattle.group_types.specs.Tick.{removed_by_tick, ticked}
use Rattle.group_types.specs.HeartbeatStep.{Arrival}
use Rattle.group_types.specs.HeartbeatStep as group
use Rattle.coord_node.specs.Coordinator.{Coordinator, Tick, Answer, Done}
use Rattle.coord_node.specs.Steps.{EventRelation, HeartbeatAt}

-- KIP-848, "Session Management": a node's tick is a tick of each of its groups; it answers how many members they lost together,
-- and nothing else differs
pub record TicksAll (c : Coordinator) (moment : ℕ) (answer : Answer) (new : Coordinator) : Type 0 where
  pub each : (name : Text) → finite.get new.groups name ≡ option_map (λ g. ticked g moment) (finite.get c.groups name)
  pub answers : answer ≡ Done (sum_by (λ g. removed_by_tick g moment) (finite.values c.groups))
  pub rest : new ≡ record c { groups = new.groups }

abbrev pub TicksAreOfAllGroups : EventRelation → Type 0
TicksAreOfAllGroups Steps =
    (c : Coordinator) (moment : ℕ) (answer : Answer) (new : Coordinator) → Steps c (Tick moment) answer new → TicksAll c moment answer new

-- the heartbeat is answered with no error
abbrev pub Succeeds : group.Answer → Type 0
Succeeds answer = (reply : group.Reply) × (answer ≡ group.Replied reply) × (reply.code ≡ NoError)

-- A group that isn't there is there after a heartbeat exactly where that is answered with no error; where it is not, nothing has
-- changed.
pub record IsMadeBySuccess (c : Coordinator) (name : Text) (answer : group.Answer) (new : Coordinator) : Type 0 where
  pub made : Succeeds answer → (g : Group) × (finite.get new.groups name ≡ Some g)
  pub kept_out : ¬ Succeeds answer → new ≡ c

abbrev pub GroupsAreMadeBySuccess : Type 0
GroupsAreMadeBySuccess =
    (c : Coordinator) (a : Arrival) (answer : group.Answer) (new : Coordinator)
    → finite.get c.groups a.heartbeat.group ≡ None → HeartbeatAt None c a answer new
    → IsMadeBySuccess c a.heartbeat.group answer new
