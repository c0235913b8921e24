use Rattle.std.proofs.Common.{map, ap, ◌∙◌}
use Rattle.std.specs.Slice.Iter.{iter_rest}
use Rattle.std.proofs.lemmas.List.{nil_from_length}
use Rattle.std.proofs.lemmas.Result.{err_from_is_err_and}
use Rattle.replica_snapshots.specs.Parts.{grant_of}
use Rattle.replica_snapshots.proofs.Puts.{all_left, one_less, one_stopped, none_left}
use Rattle.replica_snapshots.proofs.member.put_each_grant.Goals as goal

pub loop-p-init : goal.loop-p-init
loop-p-init c =
    all_left (ap (map (grant_of c.args.grants.now)) (ap iter_rest c.into_iter-p-iterator.ensures.into_iter_gives ∙ c.iter-p-items.ensures.rest))

pub loop-p-preserved : goal.loop-p-preserved
loop-p-preserved c =
    one_less c.loop-p.invariant (ap (map (grant_of c.args.grants.now)) c.in-Some.ensures.steps) c.in_ok-put_grant.ensures

pub returns-in_err-put_grant : goal.returns-in_err-put_grant
returns-in_err-put_grant c =
    let p = err_from_is_err_and c.from_residual.result c.from_residual.ensures.1 in
    one_stopped c.from_residual.result c.loop-p.invariant (ap (map (grant_of c.args.grants.now)) c.in-Some.ensures.steps) c.in_err-put_grant.ensures p.1 p.2

pub returns : goal.returns
returns c =
    none_left c.loop-p.invariant (ap (map (grant_of c.args.grants.now)) (nil_from_length (iter_rest c.loop-p.p-iterator) c.in-None.ensures.steps.0))
