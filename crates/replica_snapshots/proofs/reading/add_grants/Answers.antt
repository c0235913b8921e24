use Rattle.std.proofs.lemmas.Result.{err_from_is_err_and}
use Rattle.replica_snapshots.specs.Building.{CanAddGrant, with_grant}
use Rattle.replica_snapshots.specs.Spelling.{FitsGrant, grant_fields}
use Rattle.replica_snapshots.proofs.Adding.{array_added, array_stopped}
use Rattle.replica_snapshots.proofs.reading.add_grants.Goals as goal

pub returns-in_err-count : goal.returns-in_err-count
returns-in_err-count c =
    let p = err_from_is_err_and c.from_residual.result c.from_residual.ensures.1 in
    array_stopped FitsGrant grant_fields (CanAddGrant c.args.id.now) (with_grant c.args.id.now) _ _ _ c.from_residual.result _ _ c.in_err-count.ensures p.1 p.2

pub returns : goal.returns
returns c = array_added FitsGrant grant_fields (CanAddGrant c.args.id.now) (with_grant c.args.id.now) _ _ _ c.add_each_grant.result c.in_ok-count.ensures c.add_each_grant.ensures
