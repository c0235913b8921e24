use Rattle.std.proofs.Common.{◌≡◌, [], ◌∷◌, ◌++◌, map}
use Rattle.std.proofs.lemmas.Result.{err_from_is_err_and}
use Rattle.std.proofs.lemmas.List.{map_push}
use Rattle.flex_wire.specs.Composed.{elements_at}
use Rattle.flex_wire.proofs.Scan.{elements_are_scanned, goes_on, fails, is_done}
use Rattle.kip_msgs.proofs.reading.arrays.elements_of.Goals as goal

pub returns-in_err-element : goal.returns-in_err-element
returns-in_err-element g c =
    let read = g.T.TakeElement.element_at in
    let p = err_from_is_err_and c.from_residual.result c.from_residual.ensures.1 in
    rw (p.1, p.2) (λ other. fails (elements_are_scanned read) tt (map g.T.TakeElement.value_of c.loop.elements.items) c.args.count c.loop.counter c.loop.rest.now c.in_err-element.field-0.0 (elements_at read c.args.count c.args.bytes.now) c.loop-test.true (c.in_err-element.ensures other) c.loop.invariant)

pub loop-preserved : goal.loop-preserved
loop-preserved g c =
    let read = g.T.TakeElement.element_at in
    let view = g.T.TakeElement.value_of in
    let element = c.in_ok-element.element in
    let more : map view c.push.new.self.items ≡ map view c.loop.elements.items ++ view element ∷ [] = rw c.in_ok-push.ensures.items (map_push _ c.loop.elements.items element) in
    rw more (goes_on (elements_are_scanned read) tt (map view c.loop.elements.items) c.args.count c.loop.counter c.loop.rest.now (view element) c.in_ok-element.after.now (elements_at read c.args.count c.args.bytes.now) c.loop-test.true c.in_ok-element.ensures c.loop.invariant)

pub returns : goal.returns
returns g c =
    let read = g.T.TakeElement.element_at in
    is_done (elements_are_scanned read) tt (map g.T.TakeElement.value_of c.loop.elements.items) c.args.count c.loop.counter c.loop.rest.now (elements_at read c.args.count c.args.bytes.now) c.loop-test.false c.loop.invariant
