use Rattle.std.proofs.Common.{◌+◌, drop, sym, subst}
use Rattle.std.specs.List.{flat_map}
use Rattle.std.proofs.lemmas.Result.{err_from_is_err_and}
use Rattle.std.proofs.lemmas.List.{take_all}
use Rattle.std.proofs.lemmas.List.Folds.{flat_map-map}
use Rattle.std.proofs.lemmas.List.Elements.{All-more, All-map}
use Rattle.kip_msgs.proofs.Puts.{step_up_to, stop_up_to, finish, flat_map-drop, flat_map-drop_all, All-of_map}
use Rattle.kip_msgs.proofs.writing.arrays.put_each.Goals as goal

pub put-requires : goal.put-requires
put-requires g c =
    let element = g.T.PutElement in
    subst (λ (x : g.row.T.Denot). element.IsWritable (element.value_of x)) (sym c.element-item.is) (All-of_map element.IsWritable element.value_of c.args.elements.now c.requires c.loop-element.element-index _ c.loop-element-test.true)

pub returns-in_err-put-clause-appends : goal.returns-in_err-put-clause-appends
returns-in_err-put-clause-appends g c =
    let element = g.T.PutElement in
    let spelled = λ (x : g.row.T.Denot). element.spelling (element.value_of x) in
    let xs = c.args.elements.now in
    let i = c.loop-element.element-index in
    let x = c.element-item.result in
    let p = err_from_is_err_and c.from_residual.result c.from_residual.ensures.1 in
    rw (p.1, flat_map-map element.spelling element.value_of xs) (stop_up_to (flat_map spelled (drop (i + 1) xs)) (rw (flat_map-drop spelled xs i x x c.loop-element-test.true c.element-item.is) at c.loop-element.invariant.0) c.in_err-put.ensures.appends)

pub loop-element-preserved : goal.loop-element-preserved
loop-element-preserved g c =
    let element = g.T.PutElement in
    let spelled = λ (x : g.row.T.Denot). element.spelling (element.value_of x) in
    let xs = c.args.elements.now in
    let i = c.loop-element.element-index in
    let x = c.element-item.result in (
      step_up_to (rw (flat_map-drop spelled xs i x x c.loop-element-test.true c.element-item.is) at c.loop-element.invariant.0) c.in_ok-put.ensures.appends,
      All-more (λ (y : g.row.T.Denot). element.Fits (element.value_of y)) xs i x c.loop-element-test.true c.loop-element.invariant.1 (rw (← c.element-item.is) c.in_ok-put.ensures.fits),
    )

pub returns-clause-appends : goal.returns-clause-appends
returns-clause-appends g c =
    let element = g.T.PutElement in
    let spelled = λ (x : g.row.T.Denot). element.spelling (element.value_of x) in
    let xs = c.args.elements.now in
    rw (flat_map-map element.spelling element.value_of xs) (finish (rw (flat_map-drop_all spelled xs c.loop-element.element-index c.loop-element-test.false) at c.loop-element.invariant.0))

pub returns-clause-fits : goal.returns-clause-fits
returns-clause-fits g c =
    let element = g.T.PutElement in
    All-map element.Fits element.value_of c.args.elements.now (rw (take_all c.loop-element.element-index c.args.elements.now c.loop-element-test.false) at c.loop-element.invariant.1)
