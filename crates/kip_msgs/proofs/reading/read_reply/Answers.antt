use Rattle.std.proofs.Common.{◌≡◌, refl, arith}
use Rattle.flex_wire.specs.declared.fault.WireFault.TheVariants as wire
use Rattle.kip_msgs.specs.declared.fault.MsgFault.TheVariants.{Wire, UnknownApi, UnknownVersion, LeftOver}
use Rattle.kip_msgs.specs.Values.{ReplyValue, reply_api}
use Rattle.kip_msgs.specs.Spelling.{SpellsReply}
use Rattle.kip_msgs.specs.Views.{reply_value}
use Rattle.kip_msgs.specs.Reading.{reply_at}
use Rattle.kip_msgs.proofs.GivesLaws.{reading_failed_in_memory, if_ok_in_memory, answers_in_memory, fails_in_memory}
use Rattle.kip_msgs.proofs.ReplyLaws.{read_spells, spells_read, left_over_again, is_left_over, never}
use Rattle.kip_msgs.proofs.reading.read_reply.Goals as goal

pub returns-clause-found : goal.returns-clause-found
returns-clause-found c =
    let api = c.args.api in
    let body = c.args.body.now in
    if_ok_in_memory reply_value (λ (v : ReplyValue). (reply_api v ≡ api) × SpellsReply v body) c.reply_of.result (reply_at api body) c.reply_of.ensures (λ v e. read_spells api body v (λ i. omega (arith, c.type_inv.body i)) e)

pub returns-clause-only : goal.returns-clause-only
returns-clause-only c = λ v same spells.
    answers_in_memory reply_value v c.reply_of.result (reply_at c.args.api c.args.body.now) c.reply_of.ensures (spells_read c.args.api c.args.body.now v same spells)

pub returns-clause-field : goal.returns-clause-field
returns-clause-field c = λ fault e.
    reading_failed_in_memory reply_value c.reply_of.result (reply_at c.args.api c.args.body.now) (Wire fault) (λ same. absurd cc) c.reply_of.ensures e

pub returns-clause-field_or_no_memory : goal.returns-clause-field_or_no_memory
returns-clause-field_or_no_memory c = λ fault h.
    fails_in_memory reply_value (Wire fault) c.reply_of.result (reply_at c.args.api c.args.body.now) c.reply_of.ensures h

pub returns-clause-left_over : goal.returns-clause-left_over
returns-clause-left_over c = λ e.
    let api = c.args.api in
    let body = c.args.body.now in
    is_left_over api body (λ i. omega (arith, c.type_inv.body i)) (reading_failed_in_memory reply_value c.reply_of.result (reply_at api body) LeftOver (λ same. absurd cc) c.reply_of.ensures e)

pub returns-clause-left_over_or_no_memory : goal.returns-clause-left_over_or_no_memory
returns-clause-left_over_or_no_memory c = λ h.
    fails_in_memory reply_value LeftOver c.reply_of.result (reply_at c.args.api c.args.body.now) c.reply_of.ensures (left_over_again c.args.api c.args.body.now h)

pub returns-clause-no_key : goal.returns-clause-no_key
returns-clause-no_key c = λ e.
    let api = c.args.api in
    let body = c.args.body.now in
    never api body UnknownApi (λ i. omega (arith, c.type_inv.body i)) refl (λ same. absurd cc) (reading_failed_in_memory reply_value c.reply_of.result (reply_at api body) UnknownApi (λ same. absurd cc) c.reply_of.ensures e)

pub returns-clause-no_version : goal.returns-clause-no_version
returns-clause-no_version c = λ e.
    let api = c.args.api in
    let body = c.args.body.now in
    never api body UnknownVersion (λ i. omega (arith, c.type_inv.body i)) refl (λ same. absurd cc) (reading_failed_in_memory reply_value c.reply_of.result (reply_at api body) UnknownVersion (λ same. absurd cc) c.reply_of.ensures e)

pub returns-clause-memory_by_itself : goal.returns-clause-memory_by_itself
returns-clause-memory_by_itself c = λ e.
    let api = c.args.api in
    let body = c.args.body.now in
    never api body (Wire wire.NoMemory) (λ i. omega (arith, c.type_inv.body i)) refl (λ same. absurd cc) (reading_failed_in_memory reply_value c.reply_of.result (reply_at api body) (Wire wire.NoMemory) (λ same. absurd cc) c.reply_of.ensures e)
