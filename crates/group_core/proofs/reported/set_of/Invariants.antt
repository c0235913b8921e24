use Rattle.std.proofs.Common.{◌≡◌, take}
use Rattle.std.specs.List.{flat_map}
use Rattle.kip_msgs.specs.Topics.{topic_partitions_values}
use Rattle.group_epochs.specs.Request.{partitions_of}
use Rattle.group_core.proofs.reported.set_of.Given as goal

abbrev pub invariant-loop-entry : goal.invariant-loop-entry
invariant-loop-entry l = l.parts.items ≡ flat_map partitions_of (topic_partitions_values (take l.entry-index l.entries))
