use Rattle.std.proofs.Common.{List, not, ap, ◌∙◌}
use Rattle.std.specs.List.{flat_map}
use Rattle.group_types.specs.Request.{is_empty}
use Rattle.kip_msgs.specs.declared.heartbeat.TopicPartitions.{TopicPartitions}
use Rattle.kip_msgs.specs.Topics.{topic_partitions_values}
use Rattle.group_epochs.specs.Request.{partitions_of}
use Rattle.group_core.proofs.Named.{list_any-has_index}
use Rattle.group_core.proofs.checks.names_partition.Goals as goal

pub returns : goal.returns
returns c =
    c.has_index.ensures ∙ list_any-has_index c.as_slice.result.now
    ∙ ap (λ (entries : List TopicPartitions). not (is_empty (flat_map partitions_of (topic_partitions_values entries)))) c.as_slice.ensures
