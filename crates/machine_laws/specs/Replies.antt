-- KIP-848, "ConsumerGroupHeartbeat API": each field of a reply.
use Rattle.std.specs.Prelude.{◌≡◌, ◌≢◌, ℕ, ℤ, pos, negsuc, Some, None, codes}
use Rattle.std.specs.FinMap as finite
use Rattle.group_types.specs.declared.code.Code.TheVariants.{NoError, UnknownTopicOrPartition, OffsetMetadataTooLarge, CoordinatorNotAvailable, UnknownMemberId, InvalidRequest, GroupIdNotFound, GroupMaxSizeReached, FencedMemberEpoch, UnreleasedInstanceId, UnsupportedAssignor, StaleMemberEpoch}
use Rattle.group_types.specs.declared.epoch.Epoch.TheVariants.{At}
use Rattle.group_types.specs.Code.{code_text}
use Rattle.group_types.specs.Text.{Text}
use Rattle.group_types.specs.Group.{Record, Group}
use Rattle.group_types.specs.HeartbeatStep.{Answer, Replied, Reply, Arrival, HeartbeatStep}
use Rattle.group_types.specs.Fencing.{IsAcceptedAs}
use Rattle.group_types.specs.Sound.{IsSound}

-- no member, the epoch 0, no interval and no assignment
pub record IsRefusalReply (reply : Reply) : Type 0 where
  pub member : reply.member ≡ None
  pub epoch : reply.epoch ≡ pos 0
  pub interval : reply.interval ≡ pos 0
  pub assignment : reply.assignment ≡ None

-- the member, the epoch at which it leaves, no interval and no assignment
pub record IsFarewell (reply : Reply) (m : Text) (epoch : ℤ) : Type 0 where
  pub code : reply.code ≡ NoError
  pub member : reply.member ≡ Some m
  pub is_epoch : reply.epoch ≡ epoch
  pub interval : reply.interval ≡ pos 0
  pub assignment : reply.assignment ≡ None

-- the member's epoch by then, and 5 s until it beats next; AssignmentsAreNews says which assignment
pub record IsAcceptance (reply : Reply) (new : Group) (m : Text) : Type 0 where
  pub kept : Record
  pub is_kept : finite.get new.records m ≡ Some kept
  pub epoch : (e : ℕ) → kept.epoch ≡ At e → reply.epoch ≡ pos e
  pub interval : reply.interval ≡ pos 5000

-- of a refusal, of an accepted leave at -1 or -2, and of an accepted join or beat
pub record RepliesAreThese : Type 0 where
  pub refusals : (g : Group) (a : Arrival) (reply : Reply) (new : Group)
      → HeartbeatStep g a (Replied reply) new → reply.code ≢ NoError → IsRefusalReply reply
  pub farewells : (g : Group) (a : Arrival) (m : Text) (answer : Answer) (new : Group) (n : ℕ)
      → IsSound g → HeartbeatStep g a answer new → a.heartbeat.epoch ≡ negsuc n → (accepted : IsAcceptedAs m answer)
      → IsFarewell accepted.reply a.heartbeat.member a.heartbeat.epoch
  pub acceptances : (g : Group) (a : Arrival) (m : Text) (answer : Answer) (new : Group) (n : ℕ)
      → IsSound g → HeartbeatStep g a answer new → a.heartbeat.epoch ≡ pos n → (accepted : IsAcceptedAs m answer)
      → IsAcceptance accepted.reply new m

-- the texts of the errors of heartbeats (ours); the other codes have none
pub record TextsByHand : Type 0 where
  pub no_error : code_text NoError ≡ None
  pub coordinator_not_available : code_text CoordinatorNotAvailable ≡ Some (codes "coordinator not available")
  pub unknown_member_id : code_text UnknownMemberId ≡ Some (codes "unknown member")
  pub invalid_request : code_text InvalidRequest ≡ Some (codes "invalid request")
  pub group_max_size_reached : code_text GroupMaxSizeReached ≡ Some (codes "group is full")
  pub fenced_member_epoch : code_text FencedMemberEpoch ≡ Some (codes "fenced member epoch")
  pub unreleased_instance_id : code_text UnreleasedInstanceId ≡ Some (codes "instance id in use")
  pub unsupported_assignor : code_text UnsupportedAssignor ≡ Some (codes "unknown assignor")
  pub unknown_topic_or_partition : code_text UnknownTopicOrPartition ≡ None
  pub offset_metadata_too_large : code_text OffsetMetadataTooLarge ≡ None
  pub group_id_not_found : code_text GroupIdNotFound ≡ None
  pub stale_member_epoch : code_text StaleMemberEpoch ≡ None
