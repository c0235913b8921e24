use Rattle.std.proofs.Common.{rules, ◌∙◌, ◌++◌, ap}
use Rattle.flex_wire.specs.Spelling.{int16}
use Rattle.coord_server.proofs.reason.head_of.Goals as goal

pub returns : goal.returns
returns c =
    let whole = c.in-Ok.ensures.found.1 ∙ ap (λ rest. int16 c.in-Ok.key ++ rest) c.in-Ok-take_i16.ensures.found.1 in
    (c.in-Ok-take_i16.field-0-1.now, search (rules, whole))
