use Rattle.std.proofs.Common.{◌≡◌, to_z, of_z, rules}
use Rattle.std.specs.Int.{w32, w64}
use Rattle.replica_snapshots.specs.Spelling.{committed_fields}
use Rattle.replica_snapshots.proofs.Puts.{both, last, refitted}
use Rattle.replica_snapshots.proofs.parts.put_committed.Goals as goal

pub returns : goal.returns
unfolding committed_fields
returns c =
    let r = c.put_metadata.result in
    let back64 : to_z w64 (of_z w64 c.offset.result) ≡ c.offset.result = search rules in
    let back32 : to_z w32 (of_z w32 c.leader_epoch.result) ≡ c.leader_epoch.result = search rules in
    let offset = rw (back64, c.offset.ensures) at c.in_ok-put_int64.ensures in
    let leader_epoch = rw (back32, c.leader_epoch.ensures) at c.in_ok-put_int32.ensures in
    let metadata = rw c.metadata.ensures at c.put_metadata.ensures in
    let put = both r offset (both r leader_epoch (last r metadata)) in
    refitted r put (λ f. record { offset = f.0; leader_epoch = f.1.0; metadata = f.1.1 }) (λ f. (f.offset, (f.leader_epoch, f.metadata)))
