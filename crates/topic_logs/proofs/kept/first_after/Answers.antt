use Rattle.std.proofs.Common.{leb, arith, rules}
use Rattle.std.proofs.lemmas.List.Sorted.{IsPartitionPoint-from_clause}
use Rattle.topic_logs.proofs.KeptLemmas.{IsPartitionedBy-next, from_offset-place}
use Rattle.topic_logs.proofs.kept.first_after.Goals as goal

pub returns : goal.returns
returns c =
    let parted = IsPartitionedBy-next c.args.batches.now.items c.requires.0 c.args.offset c.requires.1 in
    let point = IsPartitionPoint-from_clause (λ b. leb b.next c.args.offset) _ _ c.partition_point.ensures.partitioned parted (λ a r q k. search rules) in
    from_offset-place c.args.batches.now.items c.partition_point.result c.args.offset
    (λ k d below. point.0 k d (omega arith) below)
    (λ k d from_here below. point.1 k d from_here below)
