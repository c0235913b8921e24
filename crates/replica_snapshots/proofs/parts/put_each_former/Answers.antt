use Rattle.std.proofs.Common.{refl, arith}
use Rattle.std.proofs.lemmas.List.{drop_all}
use Rattle.std.proofs.lemmas.Result.{err_from_is_err_and}
use Rattle.replica_snapshots.proofs.Puts.{all_left, one_less, one_stopped, none_left, next_found, none_found}
use Rattle.replica_snapshots.proofs.parts.put_each_former.Goals as goal

pub loop-place-init : goal.loop-place-init
loop-place-init c = all_left refl

pub loop-place-preserved : goal.loop-place-preserved
loop-place-preserved c =
    one_less c.loop-place.invariant (next_found c.args.records.now.past c.loop-place.place (c.in-Some.id.now, c.in-Some.stamp) c.in-Some.ensures) c.in_ok-put_former-in-Some.ensures

pub returns-in_err-put_former-in-Some : goal.returns-in_err-put_former-in-Some
returns-in_err-put_former-in-Some c =
    let p = err_from_is_err_and c.from_residual.result c.from_residual.ensures.1 in
    one_stopped c.from_residual.result c.loop-place.invariant (next_found c.args.records.now.past c.loop-place.place (c.in-Some.id.now, c.in-Some.stamp) c.in-Some.ensures) c.in_err-put_former-in-Some.ensures p.1 p.2

pub returns-in-None : goal.returns-in-None
returns-in-None c = none_left c.loop-place.invariant (none_found c.args.records.now.past c.loop-place.place c.in-None.ensures)

pub returns : goal.returns
returns c =
    none_left c.loop-place.invariant (drop_all c.loop-place.place c.args.records.now.past (omega (arith, c.loop-place-test.false, c.past_len-place-end.ensures)))
