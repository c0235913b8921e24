-- The examples that were worked out by hand.
use Rattle.std.proofs.Common.{refl}
use Rattle.group_types.specs.ByHand.{AssignorsByHand, CodesAreTheGuides, MemberOrderByHand, RangeByHand}

pub codes_are_the_guides : CodesAreTheGuides
codes_are_the_guides =
    record {
      no_error = refl;
      unknown_topic_or_partition = refl;
      offset_metadata_too_large = refl;
      coordinator_not_available = refl;
      unknown_member_id = refl;
      invalid_request = refl;
      group_id_not_found = refl;
      group_max_size_reached = refl;
      fenced_member_epoch = refl;
      unreleased_instance_id = refl;
      unsupported_assignor = refl;
      stale_member_epoch = refl;
    }

pub range_by_hand : RangeByHand
range_by_hand = record { three = refl; ten = refl; two = refl }

pub member_order_by_hand : MemberOrderByHand
member_order_by_hand = record { instances = refl; instance_first = refl; instance_last = refl; ids = refl }

pub assignors_by_hand : AssignorsByHand
assignors_by_hand = record { majority = refl; minority = refl; tie = refl; nobody = refl; one = refl }
