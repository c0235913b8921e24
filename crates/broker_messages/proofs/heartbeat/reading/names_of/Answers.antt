use Rattle.std.proofs.Common.{◌≡◌, [], ◌∷◌, ◌++◌}
use Rattle.std.proofs.lemmas.Result.{err_from_is_err_and}
use Rattle.std.proofs.lemmas.List.{map_push}
use Rattle.flex_wire.specs.Reading.{compact_string_at}
use Rattle.flex_wire.specs.Composed.{elements_at}
use Rattle.flex_wire.proofs.Scan.{elements_are_scanned, goes_on, fails, is_done}
use Rattle.broker_messages.specs.Heartbeat.{texts}
use Rattle.broker_messages.proofs.heartbeat.reading.names_of.Goals as goal

pub returns-in_err-name : goal.returns-in_err-name
returns-in_err-name c =
    let p = err_from_is_err_and c.from_residual.result c.from_residual.ensures.1 in
    let whole = elements_at compact_string_at c.args.count c.args.bytes.now in
    rw (p.1, p.2) (λ other. fails (elements_are_scanned compact_string_at) tt (texts c.loop.names.items) c.args.count c.loop.counter c.loop.rest.now c.in_err-name.field-0.0 whole c.loop-test.true c.in_err-name.ensures.exact c.loop.invariant)

pub loop-preserved : goal.loop-preserved
loop-preserved c =
    let whole = elements_at compact_string_at c.args.count c.args.bytes.now in
    let name = c.in_ok-name.name in
    let pushed : texts c.push.new.self.items ≡ texts c.loop.names.items ++ name.now ∷ [] = rw c.in_ok-push.ensures.items (map_push _ c.loop.names.items name) in
    rw pushed (goes_on (elements_are_scanned compact_string_at) tt (texts c.loop.names.items) c.args.count c.loop.counter c.loop.rest.now name.now c.in_ok-name.after.now whole c.loop-test.true c.in_ok-name.ensures.exact c.loop.invariant)

pub returns : goal.returns
returns c =
    is_done (elements_are_scanned compact_string_at) tt (texts c.loop.names.items) c.args.count c.loop.counter c.loop.rest.now (elements_at compact_string_at c.args.count c.args.bytes.now) c.loop-test.false c.loop.invariant
