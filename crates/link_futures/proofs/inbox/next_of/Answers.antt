use Rattle.std.proofs.Common.{ℤ, ◌++◌, ap, ◌∙◌}
use Rattle.flex_wire.specs.Spelling.{int32}
use Rattle.group_types.specs.Limits.{LARGEST_BODY}
use Rattle.link_futures.proofs.FrontLemmas.{front_is, sized}
use Rattle.link_futures.proofs.inbox.next_of.Goals as goal

pub returns : goal.returns
returns c =
    let found = c.in-Ok.ensures.found in
    let size = sized LARGEST_BODY c.in-Ok.size found.0 c.if-size.false c.if-size-2.false in
    front_is c.args.bytes.now c.in-Ok.rest.now _ (found.1 ∙ ap (λ (z : ℤ). int32 z ++ c.in-Ok.rest.now) size.0) size.1 size.2 c.if-rest-size.false
