use Rattle.std.proofs.Common.{inl, arith}
use Rattle.link_futures.proofs.FrontLemmas.{sized}
use Rattle.link_futures.proofs.ReplyLemmas.{too_short, whole_is}
use Rattle.link_futures.proofs.heard.heard_of.Goals as goal

pub returns-in_default : goal.returns-in_default
returns-in_default c =
    let short = too_short c.args.bytes.now _ c.in_default.ensures.exact in (omega arith, inl (omega arith))

pub returns : goal.returns
returns c =
    let found = c.in-Ok.ensures.found in
    let size = sized 16777216 c.in-Ok.size found.0 c.if-size-lt-SMALLEST_REPLY.false c.if-size-gt-LARGEST_REPLY.false in
    whole_is c.args.bytes.now c.in-Ok.rest.now c.in-Ok.size _ found.1 size.0 (size.1, size.2) c.if-rest-size.false c.in-Ok.ensures.only c.requires
