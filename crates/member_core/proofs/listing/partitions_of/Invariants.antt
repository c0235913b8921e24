use Rattle.std.proofs.Common.{◌≡◌, take}
use Rattle.kip_msgs.specs.Topics.{topic_partitions_values}
use Rattle.member_core.specs.Listing.{all_partitions_of}
use Rattle.member_core.proofs.listing.partitions_of.Given as goal

abbrev pub invariant-loop-entry : goal.invariant-loop-entry
invariant-loop-entry l = l.all.items ≡ all_partitions_of (topic_partitions_values (take l.entry-index l.entries))
