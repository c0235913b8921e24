use Rattle.std.proofs.Common.{map, refl, ap, arith}
use Rattle.std.specs.FinMap as finite
use Rattle.std.proofs.lemmas.List.{drop_all}
use Rattle.std.proofs.lemmas.Result.{err_from_is_err_and}
use Rattle.replica_snapshots.specs.Parts.{member_part}
use Rattle.replica_snapshots.proofs.Puts.{all_left, one_less, one_stopped, none_left, next_found, none_found}
use Rattle.replica_snapshots.proofs.parts.put_each_member.Goals as goal

pub loop-rank-init : goal.loop-rank-init
loop-rank-init c = all_left refl

pub loop-rank-preserved : goal.loop-rank-preserved
loop-rank-preserved c =
    one_less c.loop-rank.invariant
    (ap (map (member_part c.args.grants.now c.args.target.now.owners)) (next_found (finite.entries c.args.records.now.records) c.loop-rank.rank (c.in-Some.id.now, c.in-Some.kept.now) c.in-Some.ensures))
    c.in_ok-put_member-in-Some.ensures

pub returns-in_err-put_member-in-Some : goal.returns-in_err-put_member-in-Some
returns-in_err-put_member-in-Some c =
    let p = err_from_is_err_and c.from_residual.result c.from_residual.ensures.1 in
    one_stopped c.from_residual.result c.loop-rank.invariant
    (ap (map (member_part c.args.grants.now c.args.target.now.owners)) (next_found (finite.entries c.args.records.now.records) c.loop-rank.rank (c.in-Some.id.now, c.in-Some.kept.now) c.in-Some.ensures))
    c.in_err-put_member-in-Some.ensures p.1 p.2

pub returns-in-None : goal.returns-in-None
returns-in-None c =
    none_left c.loop-rank.invariant
    (ap (map (member_part c.args.grants.now c.args.target.now.owners)) (none_found (finite.entries c.args.records.now.records) c.loop-rank.rank c.in-None.ensures))

pub returns : goal.returns
returns c =
    none_left c.loop-rank.invariant
    (ap (map (member_part c.args.grants.now c.args.target.now.owners)) (drop_all c.loop-rank.rank (finite.entries c.args.records.now.records) (omega (arith, c.loop-rank-test.false, c.len-rank-end.ensures, finite.len-entries c.args.records.now.records))))
