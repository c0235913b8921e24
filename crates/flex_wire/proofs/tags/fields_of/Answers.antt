use Rattle.std.proofs.Common.{◌≡◌, ◌++◌, ◌∷◌, [], None}
use Rattle.std.proofs.lemmas.Result.{err_from_is_err_and}
use Rattle.std.proofs.lemmas.List.{map_push}
use Rattle.flex_wire.specs.Reading.{tagged_fields_behind}
use Rattle.flex_wire.specs.Tags.{tagged, all_tagged}
use Rattle.flex_wire.proofs.Scan.{tagged_fields_are_scanned, goes_on, fails, is_done}
use Rattle.flex_wire.proofs.tags.fields_of.Goals as goal

pub returns-in_err-field : goal.returns-in_err-field
returns-in_err-field c =
    let p = err_from_is_err_and c.from_residual.result c.from_residual.ensures.1 in
    let whole = tagged_fields_behind None c.args.count c.args.bytes.now in
    rw (p.1, p.2) (λ other. fails tagged_fields_are_scanned c.loop.last (all_tagged c.loop.fields.items) c.args.count c.loop.counter c.loop.rest.now c.in_err-field.field-0.0 whole c.loop-test.true c.in_err-field.ensures c.loop.invariant)

pub loop-preserved : goal.loop-preserved
loop-preserved c =
    let whole = tagged_fields_behind None c.args.count c.args.bytes.now in
    let field = c.in_ok-field.field in
    let pushed : all_tagged c.push.new.self.items ≡ all_tagged c.loop.fields.items ++ tagged field ∷ [] = rw c.in_ok-push.ensures.items (map_push _ c.loop.fields.items field) in
    rw pushed (goes_on tagged_fields_are_scanned c.loop.last (all_tagged c.loop.fields.items) c.args.count c.loop.counter c.loop.rest.now (tagged field) c.in_ok-field.after.now whole c.loop-test.true c.in_ok-field.ensures c.loop.invariant)

pub returns : goal.returns
returns c = is_done tagged_fields_are_scanned c.loop.last (all_tagged c.loop.fields.items) c.args.count c.loop.counter c.loop.rest.now (tagged_fields_behind None c.args.count c.args.bytes.now) c.loop-test.false c.loop.invariant
