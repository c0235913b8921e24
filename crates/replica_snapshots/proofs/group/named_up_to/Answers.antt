use Rattle.replica_snapshots.proofs.Puts.{both, refitted}
use Rattle.replica_snapshots.proofs.group.named_up_to.Goals as goal

pub returns : goal.returns
returns c =
    let r = c.group_up_to.result in
    let put = both r c.in_ok-put_text.ensures c.group_up_to.ensures in
    refitted r put (λ f. record { name = f.0; group = f.1 }) (λ can. (can.name, can.parts))
