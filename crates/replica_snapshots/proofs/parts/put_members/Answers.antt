use Rattle.std.proofs.Common.{map, sym, ◌∙◌}
use Rattle.std.specs.FinMap as finite
use Rattle.std.proofs.lemmas.List.{length-map}
use Rattle.std.proofs.lemmas.Result.{err_from_is_err_and}
use Rattle.replica_snapshots.specs.Parts.{member_part}
use Rattle.replica_snapshots.specs.Puttable.{CanPutMember}
use Rattle.replica_snapshots.specs.Spelling.{member_fields, FitsMember}
use Rattle.replica_snapshots.proofs.Puts.{array_put, array_stopped}
use Rattle.replica_snapshots.proofs.parts.put_members.Goals as goal

pub returns-in_err-put_size : goal.returns-in_err-put_size
returns-in_err-put_size c =
    let part = member_part c.args.grants.now c.args.target.now.owners in
    let entries = finite.entries c.args.records.now.records in
    let p = err_from_is_err_and c.from_residual.result c.from_residual.ensures.1 in
    array_stopped CanPutMember FitsMember member_fields (map part entries) c.from_residual.result
    (c.len.ensures ∙ (finite.len-entries c.args.records.now.records ∙ sym (length-map entries part))) c.in_err-put_size.ensures p.1 p.2

pub returns : goal.returns
returns c =
    let part = member_part c.args.grants.now c.args.target.now.owners in
    let entries = finite.entries c.args.records.now.records in
    array_put CanPutMember FitsMember member_fields (map part entries) c.put_each_member.result
    (c.len.ensures ∙ (finite.len-entries c.args.records.now.records ∙ sym (length-map entries part))) c.in_ok-put_size.ensures c.put_each_member.ensures
