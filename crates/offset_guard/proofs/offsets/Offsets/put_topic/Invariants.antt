use Rattle.std.proofs.Common.{◌≡◌, drop}
use Rattle.group_types.specs.Commit.{with_offsets}
use Rattle.offset_guard.proofs.Commits.{partition_commitments}
use Rattle.offset_guard.proofs.offsets.Offsets.put_topic.Given as goal

abbrev pub invariant-loop-partition : goal.invariant-loop-partition
invariant-loop-partition l =
    with_offsets l.image l.self (partition_commitments l.topic.name.now (drop l.partition-index l.partition-items))
    ≡ with_offsets l.image l.fn.self (partition_commitments l.topic.name.now l.partition-items)
