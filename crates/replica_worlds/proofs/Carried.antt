-- What holds of a world with other stamps holds of it as it is.
use Rattle.std.proofs.Common.{ℕ, pos, Option, Some, None, IsTrue, sym, ap, subst, ◌∙◌}
use Rattle.std.specs.Option.{option_map}
use Rattle.std.specs.FinMap as finite
use Rattle.group_types.specs.declared.partition.Partition.{Partition}
use Rattle.group_types.specs.declared.stamp.Stamp.{Stamp}
use Rattle.group_types.specs.Text.{Text}
use Rattle.group_types.specs.Sets.{has}
use Rattle.group_types.specs.Partition.{Partitions}
use Rattle.group_types.specs.Group.{Group}
use Rattle.coord_node.specs.Coordinator.{Coordinator}
use Rattle.member_core.specs.Client.{Client}
use Rattle.world_sim.specs.World.{Commit, granted}
use Rattle.world_sim.specs.Holding.{HasRecord, IsMember, IsTaken, IsTakenIn}
use Rattle.world_sim.specs.Exclusivity.{CommitHeld, HoldApart, HoldGranted, ShowGranted, SinceGranted}
use Rattle.replica_worlds.specs.ReplicaWorlds.{ReplicaWorld, world_of}
use Rattle.replica_worlds.specs.Unstamped.{restamped}
use Rattle.replica_worlds.proofs.WithValues.{get_changed, has_changed}
use Rattle.replica_worlds.proofs.RestampedMembers.{group_of, record_of}
use Rattle.replica_worlds.proofs.RestampedSteps.{refusal_as}
use Rattle.replica_worlds.proofs.RestampedNodes.{granted_as}
use Rattle.replica_worlds.proofs.Shadows.{shadow}

module _ (other : Stamp → Stamp) where
  pub has_record_as : (c : Coordinator) (name id : Text) → HasRecord c name id → HasRecord (restamped other c) name id
  has_record_as c name id is =
      record {
        group = group_of other is.group;
        of_group = get_changed (group_of other) c.groups name ∙ ap (option_map (group_of other)) is.of_group;
        has_record = has_changed (record_of other) is.group.records id ∙ is.has_record;
      }

  taken_in_as : (o : Option Group) (k : Commit) → IsTakenIn o k → IsTakenIn (option_map (group_of other) o) k
  taken_in_as None k is = is
  taken_in_as (Some g) k is = refusal_as other g.records k.id (pos k.epoch) ∙ is

  taken_as : (c : Coordinator) (k : Commit) → IsTaken c k → IsTaken (restamped other c) k
  taken_as c k is = subst (λ (o : Option Group). IsTakenIn o k) (sym (get_changed (group_of other) c.groups k.group)) (taken_in_as (finite.get c.groups k.group) k is)

  module _ (s : ReplicaWorld) where
    member_as : (i : ℕ) (c : Client) (id : Text) → IsMember (world_of s) i c id → IsMember (shadow other s) i c id
    member_as i c id is = record { client = is.client; is_id = is.is_id; member = has_record_as s.log.coordinator c.settings.group id is.member }

    granted_back : (name id : Text) (p : Partition) → IsTrue (has (granted (restamped other s.log.coordinator) name id) p) → IsTrue (has (granted s.log.coordinator name id) p)
    granted_back name id p is = subst (λ (set : Partitions). IsTrue (has set p)) (granted_as other s.log.coordinator name id) is

    pub apart_back : HoldApart (shadow other s) → HoldApart (world_of s)
    apart_back so i j c d m n p one another = so i j c d m n p (member_as i c m one) (member_as j d n another)

    pub granted_if_held : HoldGranted (shadow other s) → HoldGranted (world_of s)
    granted_if_held so i c m p is owns = granted_back c.settings.group m p (so i c m p (member_as i c m is) owns)

    pub granted_if_shown : ShowGranted (shadow other s) → ShowGranted (world_of s)
    granted_if_shown so r c m epoch shown p is shows =
        granted_back c.settings.group m p (so r c m epoch shown p
        (record { pooled = is.pooled; client = is.client; waits = is.waits; tells = is.tells; member = has_record_as s.log.coordinator c.settings.group m is.member }) shows)

    pub held_if_taken : CommitHeld (shadow other s) → CommitHeld (world_of s)
    held_if_taken so k p pooled taken owns = so k p pooled (taken_as s.log.coordinator k taken) owns

    pub granted_since : SinceGranted (shadow other s) → SinceGranted (world_of s)
    granted_since so k p pooled since = granted_back k.group k.id p (so k p pooled since)
