use Rattle.std.proofs.Common.{◌≡◌, to_z, of_z, rules}
use Rattle.std.specs.Int.{w32}
use Rattle.replica_snapshots.specs.Spelling.{offset_fields}
use Rattle.replica_snapshots.proofs.Puts.{both, last, refitted}
use Rattle.replica_snapshots.proofs.parts.put_offset.Goals as goal

pub returns : goal.returns
unfolding offset_fields
returns c =
    let r = c.put_committed.result in
    let back : to_z w32 (of_z w32 c.args.at.now.index) ≡ c.args.at.now.index = search rules in
    let put = both r c.in_ok-put_text.ensures (both r (rw back at c.in_ok-put_index.ensures) (last r c.put_committed.ensures)) in
    refitted r put (λ f. record { name = f.0; index = f.1.0; committed = f.1.1 }) (λ f. (f.name, (f.index, f.committed)))
