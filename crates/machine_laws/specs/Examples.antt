-- That the laws aren't empty: what they speak of is there.
use Rattle.std.specs.Prelude.{◌≡◌, ◌≢◌, List, Some}
use Rattle.std.specs.FinMap as finite
use Rattle.std.specs.declared.cmp.Ordering.TheVariants.{Greater}
use Rattle.group_types.specs.declared.assignor_name.AssignorName.{AssignorName}
use Rattle.group_types.specs.declared.assignor_name.AssignorName.TheVariants.{Range, Uniform}
use Rattle.group_types.specs.declared.code.Code.TheVariants.{NoError}
use Rattle.group_types.specs.declared.partition.Partition.{Partition}
use Rattle.group_types.specs.Stamp.{stamp_cmp}
use Rattle.group_types.specs.Text.{Text}
use Rattle.group_types.specs.Assignors.{Subscriber, assignor_of}
use Rattle.group_types.specs.Group.{Group}
use Rattle.group_types.specs.Renewal.{AreMembers, Renews}
use Rattle.group_types.specs.HeartbeatStep.{Answer, Closes, Replied, Reply, Arrival, HeartbeatStep}
use Rattle.group_types.specs.Fencing.{IsAcceptedAs, IsLate}
use Rattle.group_types.specs.Sound.{IsSound}

-- a renewal under an assignor by which a partition that one member was to own is another one's
pub record TargetMoves (name : AssignorName) : Type 0 where
  pub group : Group
  pub subs : List Subscriber
  pub members : AreMembers group.records subs
  pub asked : assignor_of subs ≡ name
  pub new : Group
  pub renews : Renews group new
  pub partition : Partition
  pub before : Text
  pub was : finite.get group.target partition ≡ Some before
  pub after : Text
  pub is : finite.get new.target partition ≡ Some after
  pub moved : before ≢ after

-- the heartbeat is accepted under its member's id
pub record IsTaken (g : Group) (a : Arrival) (new : Group) : Type 0 where
  pub answer : Answer
  pub step : HeartbeatStep g a answer new
  pub accepted : IsAcceptedAs a.heartbeat.member answer

-- A member's heartbeat is accepted. When it comes again, the connection is closed; one with a later stamp is accepted; and one with an earlier
-- stamp that is wrong in itself is answered, with an error.
pub record SomeHeartbeatComesAgain : Type 0 where
  pub start : Group
  pub sound : IsSound start
  pub first : Arrival
  pub next : Group
  pub taken : IsTaken start first next
  pub closes : HeartbeatStep next first Closes next
  pub second : Arrival
  pub same_member : second.heartbeat.member ≡ first.heartbeat.member
  pub later : stamp_cmp second.stamp first.stamp ≡ Greater
  pub last : Group
  pub taken_again : IsTaken next second last
  pub wrong : Arrival
  pub its_member : wrong.heartbeat.member ≡ first.heartbeat.member
  pub late : IsLate wrong.stamp first.stamp
  pub reply : Reply
  pub answered : HeartbeatStep next wrong (Replied reply) next
  pub fails : reply.code ≢ NoError

pub record TheMachinesLawsAreMet : Type 0 where
  pub moves_under_range : TargetMoves Range
  pub moves_under_uniform : TargetMoves Uniform
  pub comes_again : SomeHeartbeatComesAgain
