use Rattle.std.proofs.Common.{subst}
use Rattle.broker_apis.specs.Told.{AppendsFor}
use Rattle.broker_apis.proofs.ToldLemmas.{sends_nothing, sends_held}
use Rattle.broker_apis.proofs.parts.BrokerApisOtherApis.answer.Goals as goal

pub returns-in-NoReply-clause-ok : goal.returns-in-NoReply-clause-ok
returns-in-NoReply-clause-ok g c =
    let told = subst (λ answer. AppendsFor c.args.body.now answer c.args.out.now.items c.told.new.out.items) c.in-NoReply.is c.in_ok-told.ensures.ok in
    let sent = sends_nothing c.args.body.now c.args.out.now.items c.told.new.out.items told in
    (sent.bytes, sent.sent, sent.items)

pub returns-in-Held-clause-ok : goal.returns-in-Held-clause-ok
returns-in-Held-clause-ok g c =
    let told = subst (λ answer. AppendsFor c.args.body.now answer c.args.out.now.items c.told.new.out.items) c.in-Held.is c.in_ok-told.ensures.ok in
    let sent = sends_held c.args.body.now c.args.out.now.items c.told.new.out.items c.in-Held.held told in
    (sent.bytes, sent.sent, sent.items)
