use Rattle.std.proofs.lemmas.Result.{err_from_is_err_and}
use Rattle.coord_node.specs.Nodes.{held_of}
use Rattle.replica_snapshots.proofs.CanPuts.{named_can}
use Rattle.replica_snapshots.proofs.group.spelled.Goals as goal

pub returns-in_err-put_group-clause-fitting : goal.returns-in_err-put_group-clause-fitting
returns-in_err-put_group-clause-fitting c =
    let p = err_from_is_err_and c.from_residual-in_err-put_group.result c.from_residual-in_err-put_group.ensures.1 in
    rw (p.1, p.2) (λ fits. c.in_err-put_group.ensures.fitting (named_can (c.args.name.now, held_of c.args.group.now) fits))
