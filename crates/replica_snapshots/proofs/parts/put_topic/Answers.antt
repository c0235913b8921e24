use Rattle.replica_snapshots.specs.Spelling.{topic_fields}
use Rattle.replica_snapshots.proofs.Puts.{both, last, refitted}
use Rattle.replica_snapshots.proofs.parts.put_topic.Goals as goal

pub returns : goal.returns
unfolding topic_fields
returns c =
    let r = c.put_partition_count.result in
    let name = rw c.as_str.ensures.value at c.in_ok-put_text.ensures in
    let put = both r name (both r c.in_ok-put_id.ensures (last r c.put_partition_count.ensures)) in
    refitted r put (λ f. record { name = f.0; id = f.1.0; count = f.1.1 }) (λ f. (f.name, (f.id, f.count)))
