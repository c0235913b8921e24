use Rattle.coord_replica.specs.Snapshots.{snapshot_value}
use Rattle.coord_c.proofs.Parts.{part_of_put}
use Rattle.coord_c.proofs.replicated.part_of.Goals as goal

pub returns : goal.returns
returns c =
    part_of_put c.put.result c.args.replica.now (snapshot_value c.in_ok-snapshot.snapshot) c.args.out.now.items c.put.new.out.items
    c.args.from c.args.size c.in_ok-snapshot.ensures.snapshot c.requires c.put.ensures
