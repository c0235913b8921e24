use Rattle.std.proofs.Common.{◌≡◌, refl, ◌∙◌}
use Rattle.std.proofs.lemmas.Result.{err_from_is_err_and}
use Rattle.flex_wire.specs.declared.fault.WireFault.TheVariants as wire
use Rattle.broker_messages.proofs.FrontLaws.{front_of, back_fields, front_fits, body_1_parts}
use Rattle.broker_messages.proofs.heartbeat.reading.read_heartbeat_1.Goals as goal

pub returns-in_err-message-clause-only : goal.returns-in_err-message-clause-only
returns-in_err-message-clause-only c = λ header v regex spells.
    absurd (c.in_err-message.ensures.only _ (spells.bytes ∙ body_1_parts header v regex))

pub returns-in_err-heartbeat-clause-only : goal.returns-in_err-heartbeat-clause-only
returns-in_err-heartbeat-clause-only c = λ header v regex spells.
    let p = err_from_is_err_and c.from_residual-in_err-heartbeat.result c.from_residual-in_err-heartbeat.ensures.1 in
    let message = c.in_ok-message.ensures.only _ (spells.bytes ∙ body_1_parts header v regex) in
    let no_memory : c.in_err-heartbeat.field-0.0 ≡ wire.NoMemory = c.in_err-heartbeat.ensures.only (front_of header v) regex (back_fields v) (front_fits header v spells.header spells.heartbeat) spells.regex message in
    rw (p.1, p.2, no_memory) refl

pub returns-clause-only : goal.returns-clause-only
returns-clause-only c = λ header v regex spells.
    let message = c.in_ok-message.ensures.only _ (spells.bytes ∙ body_1_parts header v regex) in
    c.in_ok-heartbeat.ensures.only (front_of header v) regex (back_fields v) (front_fits header v spells.header spells.heartbeat) spells.regex message
