use Rattle.std.proofs.Common.{◌≡◌, pos, to_z, of_z, rules, sym, ap, ◌∙◌, arith}
use Rattle.std.specs.Int.{w16}
use Rattle.broker_messages.proofs.FrontLaws.{head_failed, head_is, head_found}
use Rattle.broker_messages.proofs.heartbeat.reading.after_head.Goals as goal

pub returns-in_err-key-clause-only : goal.returns-in_err-key-clause-only
returns-in_err-key-clause-only c = λ rest is. absurd (head_failed c.args.body.now _ c.in_err-key.ensures rest is)

pub returns-then-key-ne68-clause-only : goal.returns-then-key-ne68-clause-only
returns-then-key-ne68-clause-only c = λ rest is.
    absurd (c.if-key-ne68.true (ap (of_z w16) (head_is c.args.body.now _ _ _ c.in_ok-key.ensures rest is).key_is))

pub returns-then-version-ne1-clause-only : goal.returns-then-version-ne1-clause-only
returns-then-version-ne1-clause-only c = λ rest is.
    absurd (c.if-version-ne1.true (ap (of_z w16) (head_is c.args.body.now _ _ _ c.in_ok-key.ensures rest is).version_is))

pub returns-clause-found : goal.returns-clause-found
returns-clause-found c =
    let key : to_z w16 (of_z w16 c.in_ok-key.key) ≡ c.in_ok-key.key = search rules in
    let version : to_z w16 (of_z w16 c.in_ok-key.version) ≡ c.in_ok-key.version = search rules in
    let key_is : c.in_ok-key.key ≡ pos 68 = sym key ∙ ap (to_z w16) c.if-key-ne68.false in
    let version_is : c.in_ok-key.version ≡ pos 1 = sym version ∙ ap (to_z w16) c.if-version-ne1.false in
    head_found c.args.body.now c.in_ok-key.key c.in_ok-key.version c.in_ok-key.rest.now (λ i. omega (arith, c.type_inv.body i)) c.in_ok-key.ensures key_is version_is

pub returns-clause-only : goal.returns-clause-only
returns-clause-only c = λ rest is. (head_is c.args.body.now _ _ _ c.in_ok-key.ensures rest is).rest_is
