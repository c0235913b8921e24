use Rattle.std.proofs.Common.{map, All}
use Rattle.kip_msgs.specs.Views.{commit_request_partition_value}
use Rattle.kip_msgs.specs.Writable.{IsWritableCommitRequestPartition}
use Rattle.world_tests.proofs.offsets.partitions_of.Given as goal

-- the partitions so far can be written
abbrev pub invariant-loop-place : goal.invariant-loop-place
invariant-loop-place l = All IsWritableCommitRequestPartition (map commit_request_partition_value l.partitions)
