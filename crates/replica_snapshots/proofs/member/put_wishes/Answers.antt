use Rattle.std.proofs.Common.{[], ◌++◌}
use Rattle.std.specs.Prelude.{IfSome}
use Rattle.std.proofs.lemmas.Result.{err_from_is_err_and}
use Rattle.replica_snapshots.specs.Spelling.{number64, FitsMillis, optional, assignor_field, FitsAssignor, wishes_fields}
use Rattle.replica_snapshots.proofs.Puts.{both, last, refitted, stopped}
use Rattle.replica_snapshots.proofs.member.put_wishes.Goals as goal

pub returns-in_err-put_names : goal.returns-in_err-put_names
unfolding wishes_fields
returns-in_err-put_names c =
    let r = c.from_residual.result in
    let kept = c.args.kept.now in
    let p = err_from_is_err_and r c.from_residual.ensures.1 in
    let names = rw c.names.ensures at c.in_err-put_names.ensures in
    let others = IfSome kept.assignor FitsAssignor × FitsMillis kept.rebalance_timeout in
    let put = stopped others others (optional assignor_field kept.assignor ++ (number64 kept.rebalance_timeout ++ [])) r names p.1 p.2 in
    refitted r put (λ f. record { names = f.0; assignor = f.1.0; rebalance_timeout = f.1.1 }) (λ f. (f.names, (f.assignor, f.rebalance_timeout)))

pub returns : goal.returns
unfolding wishes_fields
returns c =
    let r = c.put_millis.result in
    let names = rw c.names.ensures at c.in_ok-put_names.ensures in
    let assignor = rw c.assignor.ensures at c.in_ok-put_optional_assignor.ensures in
    let timeout = rw c.rebalance_timeout.ensures at c.put_millis.ensures in
    let put = both r names (both r assignor (last r timeout)) in
    refitted r put (λ f. record { names = f.0; assignor = f.1.0; rebalance_timeout = f.1.1 }) (λ f. (f.names, (f.assignor, f.rebalance_timeout)))
