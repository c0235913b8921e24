-- Error codes, by the Kafka protocol guide, "Error Codes".
use Rattle.std.specs.Prelude.{ℤ, pos, Option, Some, None, codes}
use Rattle.group_types.specs.Text.{Text}
use Rattle.group_types.specs.declared.code.Code.{Code}
use Rattle.group_types.specs.declared.code.Code.TheVariants.{NoError, UnknownTopicOrPartition, OffsetMetadataTooLarge, CoordinatorNotAvailable, UnknownMemberId, InvalidRequest, GroupIdNotFound, GroupMaxSizeReached, FencedMemberEpoch, UnreleasedInstanceId, UnsupportedAssignor, StaleMemberEpoch}

-- the number of an error code, as it stands in a reply
abbrev pub code_number : Code → ℤ
code_number NoError = pos 0
code_number UnknownTopicOrPartition = pos 3
code_number OffsetMetadataTooLarge = pos 12
code_number CoordinatorNotAvailable = pos 15
code_number UnknownMemberId = pos 25
code_number InvalidRequest = pos 42
code_number GroupIdNotFound = pos 69
code_number GroupMaxSizeReached = pos 81
code_number FencedMemberEpoch = pos 110
code_number UnreleasedInstanceId = pos 111
code_number UnsupportedAssignor = pos 112
code_number StaleMemberEpoch = pos 113

-- the ErrorMessage of a heartbeat reply with the code (the texts are ours); no message goes with
-- success, nor with the codes of commits alone
abbrev pub code_text : Code → Option Text
code_text NoError = None
code_text UnknownTopicOrPartition = None
code_text OffsetMetadataTooLarge = None
code_text CoordinatorNotAvailable = Some (codes "coordinator not available")
code_text UnknownMemberId = Some (codes "unknown member")
code_text InvalidRequest = Some (codes "invalid request")
code_text GroupIdNotFound = None
code_text GroupMaxSizeReached = Some (codes "group is full")
code_text FencedMemberEpoch = Some (codes "fenced member epoch")
code_text UnreleasedInstanceId = Some (codes "instance id in use")
code_text UnsupportedAssignor = Some (codes "unknown assignor")
code_text StaleMemberEpoch = None
