use Rattle.std.proofs.Common.{sym, subst, ap}
use Rattle.std.proofs.lemmas.Result.{err_from_is_err_and}
use Rattle.replica_snapshots.specs.Nodes.{FitsHead, head_fields}
use Rattle.replica_snapshots.specs.Views.{head_value}
use Rattle.replica_snapshots.proofs.PartReads.{head_is_read, same_part, stopped_part}
use Rattle.replica_snapshots.proofs.head.read_again.Goals as goal

pub returns-in_err-head-clause-whole : goal.returns-in_err-head-clause-whole
returns-in_err-head-clause-whole c =
    let p = err_from_is_err_and c.from_residual.result c.from_residual.ensures.1 in
    rw (p.1, p.2) (λ v rest fits sound is. stopped_part head_is_read c.args.bytes.now _ _ c.new-cursor.ensures c.in_err-head.ensures v rest (fits, sound) is)

pub returns-in_err-again-clause-whole : goal.returns-in_err-again-clause-whole
returns-in_err-again-clause-whole c =
    let p = err_from_is_err_and c.from_residual-in_err-again.result c.from_residual-in_err-again.ensures.1 in
    rw (p.1, p.2) (λ v rest fits sound is.
    let same = same_part head_is_read c.args.bytes.now _ (head_value c.in_ok-head.head) _ c.new-cursor.ensures c.in_ok-head.ensures v rest (fits, sound) is in
    c.in_err-again.ensures.fitting (subst FitsHead (sym same) fits))

pub returns-clause-whole : goal.returns-clause-whole
returns-clause-whole c = λ v rest fits sound is.
    let same = same_part head_is_read c.args.bytes.now _ (head_value c.in_ok-head.head) _ c.new-cursor.ensures c.in_ok-head.ensures v rest (fits, sound) is in
    let fields = ap head_fields same in
    let spelled = c.in_ok-again.ensures.ok.1 in
    let no = c.in-Err.ensures.whole rest cc in
    absurd cc
