use Rattle.std.proofs.Common.{length, refl, arith}
use Rattle.std.proofs.lemmas.List.{nil_from_length}
use Rattle.std.proofs.lemmas.Option.{slice_get_read}
use Rattle.uniform_assign.proofs.Ranked.{root-first}
use Rattle.uniform_assign.proofs.count_set.first_of_all.Goals as goal

pub returns-then-len-lt2 : goal.returns-then-len-lt2
returns-then-len-lt2 c = λ counts is.
    let many = is.are_ranks.as_many in
    let few = c.if-len-lt2.true in
    let shown = c.len.ensures in
    let ok = c.args.nodes.now.ok in
    nil_from_length counts (omega arith)

pub returns : goal.returns
returns c = λ counts is.
    let nodes = c.args.nodes.now.items in
    let many = c.if-len-lt2.false in
    let shown = c.len.ensures in
    let ok = c.args.nodes.now.ok in
    root-first counts nodes is c.index.result.now (slice_get_read nodes (length nodes) 1 c.index.result.now refl (omega arith) c.index.ensures)
