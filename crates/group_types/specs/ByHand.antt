-- What the protocol guide's numbers are, and what assignors come to: examples that were worked out by hand.
use Rattle.std.specs.Prelude.{◌≡◌, pos, [], ◌∷◌, map, Option, Some, None, codes}
use Rattle.std.specs.declared.cmp.Ordering.TheVariants.{Less, Greater}
use Rattle.group_types.specs.declared.code.Code.TheVariants.{NoError, UnknownTopicOrPartition, OffsetMetadataTooLarge, CoordinatorNotAvailable, UnknownMemberId, InvalidRequest, GroupIdNotFound, GroupMaxSizeReached, FencedMemberEpoch, UnreleasedInstanceId, UnsupportedAssignor, StaleMemberEpoch}
use Rattle.group_types.specs.declared.assignor_name.AssignorName.{AssignorName}
use Rattle.group_types.specs.declared.assignor_name.AssignorName.TheVariants.{Range, Uniform}
use Rattle.group_types.specs.Code.{code_number}
use Rattle.group_types.specs.Text.{Text}
use Rattle.group_types.specs.Sets.{nothing}
use Rattle.group_types.specs.Assignors.{Subscriber, assignor_of, member_cmp}
use Rattle.group_types.specs.Owners.{range_place}

-- Kafka protocol guide, "Error Codes"
pub record CodesAreTheGuides : Type 0 where
  pub no_error : code_number NoError ≡ pos 0
  pub unknown_topic_or_partition : code_number UnknownTopicOrPartition ≡ pos 3
  pub offset_metadata_too_large : code_number OffsetMetadataTooLarge ≡ pos 12
  pub coordinator_not_available : code_number CoordinatorNotAvailable ≡ pos 15
  pub unknown_member_id : code_number UnknownMemberId ≡ pos 25
  pub invalid_request : code_number InvalidRequest ≡ pos 42
  pub group_id_not_found : code_number GroupIdNotFound ≡ pos 69
  pub group_max_size_reached : code_number GroupMaxSizeReached ≡ pos 81
  pub fenced_member_epoch : code_number FencedMemberEpoch ≡ pos 110
  pub unreleased_instance_id : code_number UnreleasedInstanceId ≡ pos 111
  pub unsupported_assignor : code_number UnsupportedAssignor ≡ pos 112
  pub stale_member_epoch : code_number StaleMemberEpoch ≡ pos 113

-- Range over seven partitions: three subscribers get 3, 2 and 2 of them in this order, and ten get one each but for the last three.
pub record RangeByHand : Type 0 where
  pub three : map (range_place 7 3) (0 ∷ 1 ∷ 2 ∷ 3 ∷ 4 ∷ 5 ∷ 6 ∷ []) ≡ 0 ∷ 0 ∷ 0 ∷ 1 ∷ 1 ∷ 2 ∷ 2 ∷ []
  pub ten : map (range_place 7 10) (0 ∷ 1 ∷ 2 ∷ 3 ∷ 4 ∷ 5 ∷ 6 ∷ []) ≡ 0 ∷ 1 ∷ 2 ∷ 3 ∷ 4 ∷ 5 ∷ 6 ∷ []
  pub two : map (range_place 4 2) (0 ∷ 1 ∷ 2 ∷ 3 ∷ []) ≡ 0 ∷ 0 ∷ 1 ∷ 1 ∷ []

abbrev pub subscriber : Text → Option Text → Option AssignorName → Subscriber
subscriber id instance assignor = record { id = id; instance = instance; names = nothing; assignor = assignor }

-- member order: by instances first, members without one behind them, by their ids
pub record MemberOrderByHand : Type 0 where
  pub instances : member_cmp (subscriber (codes "z") (Some (codes "i1")) None) (subscriber (codes "a") (Some (codes "i2")) None) ≡ Less
  pub instance_first : member_cmp (subscriber (codes "z") (Some (codes "i9")) None) (subscriber (codes "a") None None) ≡ Less
  pub instance_last : member_cmp (subscriber (codes "a") None None) (subscriber (codes "z") (Some (codes "i9")) None) ≡ Greater
  pub ids : member_cmp (subscriber (codes "a") None None) (subscriber (codes "b") None None) ≡ Less

-- the majority's assignor; uniform where there is none
pub record AssignorsByHand : Type 0 where
  pub majority : assignor_of (subscriber (codes "a") None (Some Range) ∷ subscriber (codes "b") None (Some Uniform) ∷ subscriber (codes "c") None (Some Range) ∷ []) ≡ Range
  pub minority : assignor_of (subscriber (codes "a") None (Some Range) ∷ subscriber (codes "b") None (Some Uniform) ∷ subscriber (codes "c") None (Some Uniform) ∷ []) ≡ Uniform
  pub tie : assignor_of (subscriber (codes "a") None (Some Range) ∷ subscriber (codes "b") None (Some Uniform) ∷ []) ≡ Uniform
  pub nobody : assignor_of (subscriber (codes "a") None None ∷ []) ≡ Uniform
  pub one : assignor_of (subscriber (codes "a") None (Some Range) ∷ subscriber (codes "b") None None ∷ []) ≡ Range
