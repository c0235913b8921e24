-- How partitions stand in TopicPartitions (KIP-848, "TopicPartitions"): what its entries name, and how a member lists a
-- set: topics by their ids' bytes, under each its indexes rising (the order is ours).
use Rattle.std.specs.Prelude.{List, map}
use Rattle.std.specs.List.{flat_map}
use Rattle.group_types.specs.declared.partition.Partition.{Partition}
use Rattle.kip_msgs.specs.Values.{TopicPartitionsValue}
use Rattle.kip_msgs.specs.Listing.{listed_by}

-- the partitions that an entry names
abbrev pub partitions_of : TopicPartitionsValue → List Partition
partitions_of entry = map (λ i. record { topic = entry.topic_id; index = i }) entry.partitions

-- the partitions that all entries name
abbrev pub all_partitions_of : List TopicPartitionsValue → List Partition
all_partitions_of entries = flat_map partitions_of entries

abbrev pub listed : List Partition → List TopicPartitionsValue
listed ps = listed_by (λ (p : Partition). p.topic) (λ (p : Partition). p.index) ps
