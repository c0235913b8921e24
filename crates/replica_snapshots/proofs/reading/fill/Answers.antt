use Rattle.std.proofs.lemmas.Result.{err_from_is_err_and}
use Rattle.replica_snapshots.proofs.Adding.{last_added, stopped_at_members, stopped_at_past}
use Rattle.replica_snapshots.proofs.reading.fill.Goals as goal

pub returns-in_err-add_past : goal.returns-in_err-add_past
returns-in_err-add_past c =
    let p = err_from_is_err_and c.from_residual.result c.from_residual.ensures.1 in
    stopped_at_past _ _ _ c.from_residual.result _ _ c.in_err-add_past.ensures p.1 p.2

pub returns-in_err-add_members : goal.returns-in_err-add_members
returns-in_err-add_members c =
    let p = err_from_is_err_and c.from_residual-in_err-add_members.result c.from_residual-in_err-add_members.ensures.1 in
    stopped_at_members _ _ _ c.from_residual-in_err-add_members.result _ _ c.in_ok-add_past.ensures c.in_err-add_members.ensures p.1 p.2

pub returns : goal.returns
returns c = last_added _ _ c.add_offsets.result c.in_ok-add_past.ensures c.in_ok-add_members.ensures c.add_offsets.ensures
