use Rattle.std.proofs.lemmas.Result.{err_from_is_err_and}
use Rattle.replica_snapshots.specs.Building.{CanAddMember, with_part}
use Rattle.replica_snapshots.specs.Spelling.{FitsMember, member_fields}
use Rattle.replica_snapshots.proofs.Adding.{array_added, array_stopped}
use Rattle.replica_snapshots.proofs.reading.add_members.Goals as goal

pub returns-in_err-count : goal.returns-in_err-count
returns-in_err-count c =
    let p = err_from_is_err_and c.from_residual.result c.from_residual.ensures.1 in
    array_stopped FitsMember member_fields CanAddMember with_part _ _ _ c.from_residual.result _ _ c.in_err-count.ensures p.1 p.2

pub returns : goal.returns
returns c = array_added FitsMember member_fields CanAddMember with_part _ _ _ c.add_each_member.result c.in_ok-count.ensures c.add_each_member.ensures
