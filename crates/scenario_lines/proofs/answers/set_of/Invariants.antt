use Rattle.std.proofs.Common.{◌≡◌, take}
use Rattle.kip_msgs.specs.Topics.{topic_partitions_values}
use Rattle.member_core.specs.Listing.{all_partitions_of}
use Rattle.scenario_lines.proofs.answers.set_of.Given as goal

abbrev pub invariant-loop-topic : goal.invariant-loop-topic
invariant-loop-topic l = l.partitions.items ≡ all_partitions_of (topic_partitions_values (take l.topic-index l.topics))
