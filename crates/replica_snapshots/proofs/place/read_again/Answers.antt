use Rattle.std.proofs.Common.{sym, subst, ap}
use Rattle.std.proofs.lemmas.Result.{err_from_is_err_and}
use Rattle.replica_snapshots.specs.Places.{FitsPlace, place_fields}
use Rattle.replica_snapshots.specs.Views.{place_value}
use Rattle.replica_snapshots.proofs.PartReads.{place_is_read, same_part, stopped_part}
use Rattle.replica_snapshots.proofs.place.read_again.Goals as goal

pub returns-in_err-place-clause-whole : goal.returns-in_err-place-clause-whole
returns-in_err-place-clause-whole c =
    let p = err_from_is_err_and c.from_residual.result c.from_residual.ensures.1 in
    rw (p.1, p.2) (λ v rest fits is. stopped_part place_is_read c.args.bytes.now _ _ c.new-cursor.ensures c.in_err-place.ensures v rest fits is)

pub returns-in_err-again-clause-whole : goal.returns-in_err-again-clause-whole
returns-in_err-again-clause-whole c =
    let p = err_from_is_err_and c.from_residual-in_err-again.result c.from_residual-in_err-again.ensures.1 in
    rw (p.1, p.2) (λ v rest fits is.
    let same = same_part place_is_read c.args.bytes.now _ (place_value c.in_ok-place.place) _ c.new-cursor.ensures c.in_ok-place.ensures v rest fits is in
    c.in_err-again.ensures.fitting (subst FitsPlace (sym same) fits))

pub returns-clause-whole : goal.returns-clause-whole
returns-clause-whole c = λ v rest fits is.
    let same = same_part place_is_read c.args.bytes.now _ (place_value c.in_ok-place.place) _ c.new-cursor.ensures c.in_ok-place.ensures v rest fits is in
    let fields = ap place_fields same in
    let spelled = c.in_ok-again.ensures.ok.1 in
    let no = c.in-Err.ensures.whole rest cc in
    absurd cc
