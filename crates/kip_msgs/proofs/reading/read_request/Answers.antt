use Rattle.std.proofs.Common.{refl, arith}
use Rattle.flex_wire.specs.declared.fault.WireFault.TheVariants as wire
use Rattle.kip_msgs.specs.declared.fault.MsgFault.TheVariants.{Wire, UnknownApi, UnknownVersion, LeftOver}
use Rattle.kip_msgs.specs.Values.{RequestValue}
use Rattle.kip_msgs.specs.Spelling.{SpellsRequest}
use Rattle.kip_msgs.specs.Views.{request_value}
use Rattle.kip_msgs.specs.Reading.{api_at, request_at}
use Rattle.kip_msgs.proofs.GivesLaws.{reading_failed_in_memory, if_ok_in_memory, answers_in_memory, fails_in_memory}
use Rattle.kip_msgs.proofs.HeadLaws.{unknown_key_again, unknown_version_again, short_again, front, front_unknown_key, front_unknown_version}
use Rattle.kip_msgs.proofs.RequestLaws.{read_spells, spells_read, left_over_again, is_left_over, head_failed, never_no_memory}
use Rattle.kip_msgs.proofs.reading.read_request.Goals as goal

pub returns-clause-found : goal.returns-clause-found
returns-clause-found c =
    let body = c.args.body.now in
    if_ok_in_memory request_value (λ (v : RequestValue). SpellsRequest v body) c.request_of.result (request_at body) c.request_of.ensures.exact (λ v e. read_spells body v (λ i. omega (arith, c.type_inv.body i)) e)

pub returns-clause-only : goal.returns-clause-only
returns-clause-only c = λ v spells. answers_in_memory request_value v c.request_of.result (request_at c.args.body.now) c.request_of.ensures.exact (spells_read c.args.body.now v spells)

pub returns-clause-unknown_api : goal.returns-clause-unknown_api
returns-clause-unknown_api c =
    let body = c.args.body.now in (
      (λ e.
          let h = reading_failed_in_memory request_value c.request_of.result (request_at body) UnknownApi (λ same. absurd cc) c.request_of.ensures.exact e in
          let a = head_failed body UnknownApi (λ i. omega (arith, c.type_inv.body i)) refl (λ same. absurd cc) h in
          front_unknown_key body (api_at body) (front body (λ i. omega (arith, c.type_inv.body i))) a),
      (λ h. c.request_of.ensures.head UnknownApi (unknown_key_again body h)),
    )

pub returns-clause-unknown_version : goal.returns-clause-unknown_version
returns-clause-unknown_version c =
    let body = c.args.body.now in (
      (λ e.
          let h = reading_failed_in_memory request_value c.request_of.result (request_at body) UnknownVersion (λ same. absurd cc) c.request_of.ensures.exact e in
          let a = head_failed body UnknownVersion (λ i. omega (arith, c.type_inv.body i)) refl (λ same. absurd cc) h in
          front_unknown_version body (api_at body) (front body (λ i. omega (arith, c.type_inv.body i))) a),
      (λ h. c.request_of.ensures.head UnknownVersion (unknown_version_again body h)),
    )

pub returns-clause-ends_in_head : goal.returns-clause-ends_in_head
returns-clause-ends_in_head c = λ h. c.request_of.ensures.head (Wire wire.Short) (short_again c.args.body.now h)

pub returns-clause-field : goal.returns-clause-field
returns-clause-field c = λ fault e.
    reading_failed_in_memory request_value c.request_of.result (request_at c.args.body.now) (Wire fault) (λ same. absurd cc) c.request_of.ensures.exact e

pub returns-clause-field_or_no_memory : goal.returns-clause-field_or_no_memory
returns-clause-field_or_no_memory c = λ fault h.
    fails_in_memory request_value (Wire fault) c.request_of.result (request_at c.args.body.now) c.request_of.ensures.exact h

pub returns-clause-left_over : goal.returns-clause-left_over
returns-clause-left_over c = λ e.
    let body = c.args.body.now in
    let h = reading_failed_in_memory request_value c.request_of.result (request_at body) LeftOver (λ same. absurd cc) c.request_of.ensures.exact e in
    is_left_over body (λ i. omega (arith, c.type_inv.body i)) h

pub returns-clause-left_over_or_no_memory : goal.returns-clause-left_over_or_no_memory
returns-clause-left_over_or_no_memory c = λ h.
    fails_in_memory request_value LeftOver c.request_of.result (request_at c.args.body.now) c.request_of.ensures.exact (left_over_again c.args.body.now h)

pub returns-clause-memory_by_itself : goal.returns-clause-memory_by_itself
returns-clause-memory_by_itself c = λ e.
    let body = c.args.body.now in
    never_no_memory body (λ i. omega (arith, c.type_inv.body i)) (reading_failed_in_memory request_value c.request_of.result (request_at body) (Wire wire.NoMemory) (λ same. absurd cc) c.request_of.ensures.exact e)
