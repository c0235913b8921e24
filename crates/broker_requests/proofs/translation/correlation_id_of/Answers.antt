use Rattle.std.proofs.Common.{◌∙◌}
use Rattle.broker_requests.proofs.BodyLemmas.{front_begins}
use Rattle.broker_requests.proofs.translation.correlation_id_of.Goals as goal

pub unreachable-requires : goal.unreachable-requires
unreachable-requires c =
    let begins = front_begins c.requires.value in
    let failed = c.in-Err.ensures.only c.requires.value.0.0 begins.0 c.requires.fits.0.0 (c.requires.encoded ∙ begins.1) in
    absurd cc
