-- How a set of partitions stands in an assignment: topics by their ids' bytes, under each its indexes
-- rising, and no topic without partitions (KIP-848, "ConsumerGroupHeartbeatResponse"; the order is ours).
use Rattle.std.specs.Prelude.{List}
use Rattle.group_types.specs.declared.partition.Partition.{Partition}
use Rattle.kip_msgs.specs.Values.{TopicPartitionsValue}
use Rattle.kip_msgs.specs.Listing.{listed_by}

abbrev pub listed : List Partition → List TopicPartitionsValue
listed ps = listed_by (λ (p : Partition). p.topic) (λ (p : Partition). p.index) ps
