use Rattle.std.proofs.Common.{Err, refl}
use Rattle.coord_node.specs.Nodes.{with_named}
use Rattle.replica_snapshots.specs.Groups.{FitsNamed, named_fields}
use Rattle.replica_snapshots.specs.Restoring.{CanKeep}
use Rattle.replica_snapshots.proofs.Adding.{each_added, each_stopped, none_added, one_added}
use Rattle.replica_snapshots.proofs.NodeLaws.{none_read, one_read}
use Rattle.replica_snapshots.proofs.NodeWhole.{same_want}
use Rattle.replica_snapshots.proofs.node.read_groups.Goals as goal

pub loop-init : goal.loop-init
loop-init c = (none_read c.args.bytes.now c.args.node.now, none_added FitsNamed named_fields CanKeep with_named c.args.count c.args.node.now c.args.bytes.now)

pub loop-preserved : goal.loop-preserved
loop-preserved c =
    (one_read c.loop.invariant.0 c.in-Ok.ensures.found, one_added FitsNamed named_fields CanKeep with_named c.loop-test.true c.loop.invariant.1 c.in-Ok.ensures.whole)

pub returns-in-Err-clause-whole : goal.returns-in-Err-clause-whole
returns-in-Err-clause-whole c = λ groups rest fits can is.
    let fault = c.in-Err.fault in
    same_want fault c.behind.result c.behind.ensures
    (each_stopped FitsNamed named_fields CanKeep with_named c.loop.node c.loop.rest.now (Err fault) fault fault c.loop-test.true c.loop.invariant.1 c.in-Err.ensures.whole refl refl groups rest fits can is)

pub returns-clause-whole : goal.returns-clause-whole
returns-clause-whole c = each_added FitsNamed named_fields CanKeep with_named c.loop-test.false c.loop.invariant.1
