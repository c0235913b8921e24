use Rattle.std.proofs.Common.{[], ◌++◌}
use Rattle.std.proofs.lemmas.Result.{err_from_is_err_and}
use Rattle.flex_wire.specs.Spelling.{array_count, FitsCount}
use Rattle.replica_snapshots.specs.Nodes.{head_fields}
use Rattle.replica_snapshots.proofs.Puts.{both, last, refitted, stopped}
use Rattle.replica_snapshots.proofs.head.head_up_to.Goals as goal

pub returns-in_err-put_view : goal.returns-in_err-put_view
unfolding head_fields
returns-in_err-put_view c =
    let r = c.from_residual-in_err-put_view.result in
    let p = err_from_is_err_and r c.from_residual-in_err-put_view.ensures.1 in
    let groups = c.args.groups in
    let put = both r c.in_ok-put_version.ensures (both r c.in_ok-put_number.ensures (stopped (FitsCount groups) (FitsCount groups) (array_count groups ++ []) r c.in_err-put_view.ensures p.1 p.2)) in
    refitted r put (λ f. record { salt = f.1.0; image = f.1.1.0; groups = f.1.1.1 }) (λ f. (tt, (f.salt, (f.image, f.groups))))

pub returns : goal.returns
unfolding head_fields
returns c =
    let r = c.put_size.result in
    let put = both r c.in_ok-put_version.ensures (both r c.in_ok-put_number.ensures (both r c.in_ok-put_view.ensures (last r c.put_size.ensures))) in
    refitted r put (λ f. record { salt = f.1.0; image = f.1.1.0; groups = f.1.1.1 }) (λ f. (tt, (f.salt, (f.image, f.groups))))
