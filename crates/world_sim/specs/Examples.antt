-- That the laws aren't empty: what each speaks of is there in a world that acts lead to.
use Rattle.std.specs.Prelude.{◌≡◌, ◌≢◌, ℕ, pos, false, Some, IsTrue}
use Rattle.std.specs.List.{Contains}
use Rattle.std.specs.FinMap as finite
use Rattle.kip_msgs.specs.Values.{CommitReplyValue}
use Rattle.group_types.specs.declared.partition.Partition.{Partition}
use Rattle.group_types.specs.Text.{Text}
use Rattle.group_types.specs.Sets.{has}
use Rattle.group_types.specs.Partition.{Partitions}
use Rattle.group_types.specs.Group.{Group, wanted}
use Rattle.member_core.specs.Client.{Client}
use Rattle.world_sim.specs.World.{World, Reply, Commit, numbered}
use Rattle.world_sim.specs.Acts.{Act, Bring, Outcome, IsAnswered, ActStep}
use Rattle.world_sim.specs.Reached.{IsReached}
use Rattle.world_sim.specs.Holding.{IsMember, IsTakeable, IsTaken}
use Rattle.world_sim.specs.Exclusivity.{HasCode, target_epoch_of}
use Rattle.world_sim.specs.Rounds.{Settles}
use Rattle.world_sim.specs.Convergence.{CanSettle}

-- a client that isn't removed, and a partition that it holds
pub record Holder (world : World) : Type 0 where
  pub number : ℕ
  pub client : Client
  pub id : Text
  pub member : IsMember world number client id
  pub partition : Partition
  pub holds : IsTrue (has client.own partition)

pub record SomebodyHolds : Type 0 where
  pub world : World
  pub reached : IsReached world
  pub holder : Holder world

-- two clients of one group each hold a partition, under different ids
pub record TwoHold : Type 0 where
  pub world : World
  pub reached : IsReached world
  pub one : Holder world
  pub other : Holder world
  pub one_group : one.client.settings.group ≡ other.client.settings.group
  pub two_clients : one.number ≢ other.number
  pub two_ids : one.id ≢ other.id

-- a client that waits may take a reply that shows a partition
pub record SomeReplyShows : Type 0 where
  pub world : World
  pub reached : IsReached world
  pub reply : Reply
  pub client : Client
  pub id : Text
  pub epoch : ℕ
  pub shown : Partitions
  pub takeable : IsTakeable world reply client id epoch shown
  pub partition : Partition
  pub shows : IsTrue (has shown partition)

-- a commit would be taken whose maker held a partition
pub record SomeCommitIsTaken : Type 0 where
  pub world : World
  pub reached : IsReached world
  pub commit : Commit
  pub pooled : Contains world.commits commit
  pub taken : IsTaken world.coordinator commit
  pub partition : Partition
  pub held : IsTrue (has commit.own partition)

-- a commit whose maker held a partition is brought, and the reply gives the partition that it names the code of success
pub record IsAccepted (world : World) (number : ℕ) (commit : Commit) (new : World) : Type 0 where
  pub numbered_so : numbered world.commits number ≡ Some commit
  pub partition : Partition
  pub held : IsTrue (has commit.own partition)
  pub reply : CommitReplyValue
  pub brings : ActStep world (Bring number) (IsAnswered reply) new
  pub accepted : HasCode reply (pos 0)

-- a commit is brought and accepted, and brought later and accepted again
pub record SomeCommitIsBroughtAgain : Type 0 where
  pub world : World
  pub reached : IsReached world
  pub number : ℕ
  pub commit : Commit
  pub between : World
  pub once : IsAccepted world number commit between
  pub brought : Commit
  pub same_body : brought.body ≡ commit.body
  pub new : World
  pub again : IsAccepted between number brought new

-- an act renews a group's target
pub record SomeTargetIsRenewed : Type 0 where
  pub world : World
  pub reached : IsReached world
  pub act : Act
  pub outcome : Outcome
  pub new : World
  pub step : ActStep world act outcome new
  pub name : Text
  pub group : Group
  pub of_group : finite.get new.coordinator.groups name ≡ Some group
  pub renewed : target_epoch_of (finite.get world.coordinator.groups name) ≢ group.target_epoch

-- a world with a member meets the condition of the three rounds
pub record SomeWorldCanSettle : Type 0 where
  pub world : World
  pub reached : IsReached world
  pub number : ℕ
  pub client : Client
  pub id : Text
  pub member : IsMember world number client id
  pub can : CanSettle world

-- Three rounds that move something: a member holds a partition that its group's target doesn't give it, and after them it
-- doesn't hold it any more.
pub record SomeRoundsMove : Type 0 where
  pub world : World
  pub reached : IsReached world
  pub can : CanSettle world
  pub holder : Holder world
  pub group : Group
  pub of_group : finite.get world.coordinator.groups holder.client.settings.group ≡ Some group
  pub unwanted : has (wanted group.target holder.id) holder.partition ≡ false
  pub new : World
  pub settles : Settles world new
  pub after : Client
  pub is_after : numbered new.clients holder.number ≡ Some after
  pub given_up : has after.own holder.partition ≡ false
