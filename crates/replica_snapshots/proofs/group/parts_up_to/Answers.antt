use Rattle.std.proofs.lemmas.Result.{err_from_is_err_and}
use Rattle.coord_node.specs.Nodes.{held_of}
use Rattle.replica_snapshots.specs.Puttable.{CanPutLists}
use Rattle.replica_snapshots.specs.Spelling.{parts_fields, lists_fields, FitsLists}
use Rattle.replica_snapshots.specs.Groups.{parts_of}
use Rattle.replica_snapshots.proofs.Puts.{both, refitted, stopped}
use Rattle.replica_snapshots.proofs.group.parts_up_to.Goals as goal

pub returns-in_err-put_numbers : goal.returns-in_err-put_numbers
unfolding parts_fields
returns-in_err-put_numbers c =
    let g = parts_of (held_of c.args.group.now) in
    let r = c.from_residual.result in
    let p = err_from_is_err_and r c.from_residual.ensures.1 in
    let numbers = rw c.numbers_of.ensures at c.in_err-put_numbers.ensures in
    let put = stopped (CanPutLists g.view g.past g.members g.offsets) (FitsLists g.view g.past g.members g.offsets) (lists_fields g.view g.past g.members g.offsets) r numbers p.1 p.2 in
    refitted r put (λ f. record { numbers = f.0; lists = f.1 }) (λ f. (f.numbers, f.lists))

pub returns : goal.returns
unfolding parts_fields
returns c =
    let r = c.put_lists.result in
    let numbers = rw c.numbers_of.ensures at c.in_ok-put_numbers.ensures in
    let lists = rw (c.view.ensures, c.records.ensures.past, c.records.ensures.records, c.grants.ensures.holders, c.target.ensures.owners, c.offsets.ensures) at c.put_lists.ensures in
    let put = both r numbers lists in
    refitted r put (λ f. record { numbers = f.0; lists = f.1 }) (λ f. (f.numbers, f.lists))
