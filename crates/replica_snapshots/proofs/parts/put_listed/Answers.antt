use Rattle.std.proofs.Common.{map, sym}
use Rattle.std.proofs.lemmas.List.{length-map}
use Rattle.std.proofs.lemmas.Result.{err_from_is_err_and}
use Rattle.offset_guard.specs.Listing.{entry_of}
use Rattle.replica_snapshots.specs.Spelling.{offset_fields, FitsOffset}
use Rattle.replica_snapshots.proofs.Puts.{array_put, array_stopped}
use Rattle.replica_snapshots.proofs.parts.put_listed.Goals as goal

pub returns-in_err-put_size : goal.returns-in_err-put_size
returns-in_err-put_size c =
    let p = err_from_is_err_and c.from_residual.result c.from_residual.ensures.1 in
    array_stopped FitsOffset FitsOffset offset_fields (map entry_of c.args.list.now) c.from_residual.result (sym (length-map c.args.list.now entry_of)) c.in_err-put_size.ensures p.1 p.2

pub returns : goal.returns
returns c =
    array_put FitsOffset FitsOffset offset_fields (map entry_of c.args.list.now) c.put_each_offset.result (sym (length-map c.args.list.now entry_of)) c.in_ok-put_size.ensures c.put_each_offset.ensures
