-- Kafka protocol guide, "Error Codes": the codes that a group answers heartbeats and commits with.
use Rattle.std.specs.Prelude.{ℤ, List, All}
use Rattle.group_types.specs.declared.code.Code.{Code}
use Rattle.group_types.specs.declared.code.Code.TheVariants as codes
use Rattle.group_types.specs.Text.{Text}
use Rattle.group_types.specs.Topics.{Topics}
use Rattle.group_types.specs.Group.{Group}
use Rattle.group_types.specs.Commit.{Commit, CommitReply, CommitStep}
use Rattle.group_types.specs.HeartbeatStep.{Replied, Reply, Arrival, HeartbeatStep}

pub data IsOfHeartbeats : Code → Type 0 where
  no_error : IsOfHeartbeats codes.NoError
  coordinator_not_available : IsOfHeartbeats codes.CoordinatorNotAvailable
  unknown_member_id : IsOfHeartbeats codes.UnknownMemberId
  invalid_request : IsOfHeartbeats codes.InvalidRequest
  group_max_size_reached : IsOfHeartbeats codes.GroupMaxSizeReached
  fenced_member_epoch : IsOfHeartbeats codes.FencedMemberEpoch
  unreleased_instance_id : IsOfHeartbeats codes.UnreleasedInstanceId
  unsupported_assignor : IsOfHeartbeats codes.UnsupportedAssignor

-- GROUP_ID_NOT_FOUND isn't among them: a node answers it, for a group that isn't there.
pub data IsOfCommits : Code → Type 0 where
  commit_no_error : IsOfCommits codes.NoError
  commit_unknown_topic_or_partition : IsOfCommits codes.UnknownTopicOrPartition
  commit_offset_metadata_too_large : IsOfCommits codes.OffsetMetadataTooLarge
  commit_unknown_member_id : IsOfCommits codes.UnknownMemberId
  commit_stale_member_epoch : IsOfCommits codes.StaleMemberEpoch

pub record CodesAreOfTheirRequests : Type 0 where
  pub heartbeats : (g : Group) (a : Arrival) (reply : Reply) (new : Group) → HeartbeatStep g a (Replied reply) new → IsOfHeartbeats reply.code
  pub commits : (g : Group) (c : Commit) (image : Topics) (reply : CommitReply) (new : Group)
      → CommitStep g c image reply new → All (λ (t : Text × List (ℤ × Code)). All (λ (x : ℤ × Code). IsOfCommits x.1) t.1) reply
