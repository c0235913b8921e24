-- Who is a member, what a reply shows, and whether a commit would be taken.
use Rattle.std.specs.Prelude.{◌≡◌, ℕ, pos, true, Option, Some, None, IsTrue}
use Rattle.std.specs.List.{Contains}
use Rattle.std.specs.FinMap as finite
use Rattle.group_types.specs.Text.{Text}
use Rattle.group_types.specs.Partition.{Partitions}
use Rattle.group_types.specs.Group.{Group}
use Rattle.group_types.specs.Commit.{refusal_of_commit}
use Rattle.coord_node.specs.Coordinator.{Coordinator}
use Rattle.member_core.specs.Client.{Client}
use Rattle.member_core.specs.Taking.{Accepts, Tells}
use Rattle.world_sim.specs.World.{World, Reply, Commit, numbered}

-- in the group the id has a record
pub record HasRecord (c : Coordinator) (name id : Text) : Type 0 where
  pub group : Group
  pub of_group : finite.get c.groups name ≡ Some group
  pub has_record : IsTrue (finite.contains_key group.records id)

-- The client under a number isn't removed: it has an id, and in its group the id has a record. It holds the partitions
-- of its own set.
pub record IsMember (w : World) (n : ℕ) (c : Client) (id : Text) : Type 0 where
  pub client : numbered w.clients n ≡ Some c
  pub is_id : c.id ≡ Some id
  pub member : HasRecord w.coordinator c.settings.group id

-- a reply of success that a waiting client may still take, and whose id has a record, shows these
pub record IsTakeable (w : World) (r : Reply) (c : Client) (id : Text) (epoch : ℕ) (shown : Partitions) : Type 0 where
  pub pooled : Contains w.replies r
  pub client : numbered w.clients r.request.sender ≡ Some c
  pub waits : c.waits ≡ true
  pub tells : Tells c.number r.body (Accepts id epoch (Some shown))
  pub member : HasRecord w.coordinator c.settings.group id

abbrev pub IsTakenIn : Option Group → Commit → Type 0
IsTakenIn None k = ⊥
IsTakenIn (Some g) k = refusal_of_commit g.records k.id (pos k.epoch) ≡ None

-- the commit would be taken, if it were brought now
abbrev pub IsTaken : Coordinator → Commit → Type 0
IsTaken c k = IsTakenIn (finite.get c.groups k.group) k
