use Rattle.std.proofs.Common.{map, refl, ap}
use Rattle.std.proofs.lemmas.List.{drop_all}
use Rattle.std.proofs.lemmas.Result.{err_from_is_err_and}
use Rattle.offset_guard.specs.Listing.{entry_of}
use Rattle.replica_snapshots.proofs.Puts.{all_left, one_less, one_stopped, none_left, next_of_slice}
use Rattle.replica_snapshots.proofs.parts.put_each_offset.Goals as goal

pub loop-at-init : goal.loop-at-init
loop-at-init c = all_left refl

pub loop-at-preserved : goal.loop-at-preserved
loop-at-preserved c =
    one_less c.loop-at.invariant
    (ap (map entry_of) (next_of_slice c.args.list.now c.loop-at.at-index _ c.at-item.result c.loop-at-test.true c.at-item.is))
    c.in_ok-put_offset.ensures

pub returns-in_err-put_offset : goal.returns-in_err-put_offset
returns-in_err-put_offset c =
    let p = err_from_is_err_and c.from_residual.result c.from_residual.ensures.1 in
    one_stopped c.from_residual.result c.loop-at.invariant
    (ap (map entry_of) (next_of_slice c.args.list.now c.loop-at.at-index _ c.at-item.result c.loop-at-test.true c.at-item.is))
    c.in_err-put_offset.ensures p.1 p.2

pub returns : goal.returns
returns c = none_left c.loop-at.invariant (ap (map entry_of) (drop_all c.loop-at.at-index c.args.list.now c.loop-at-test.false))
