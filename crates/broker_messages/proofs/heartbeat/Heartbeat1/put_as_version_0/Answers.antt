use Rattle.std.proofs.Common.{sym}
use Rattle.std.proofs.lemmas.Result.{on_ok_weaker}
use Rattle.kip_msgs.specs.Values.{heartbeat_request}
use Rattle.kip_msgs.specs.Spelling.{request_body}
use Rattle.broker_messages.specs.Heartbeat.{texts, with_names}
use Rattle.broker_messages.specs.Front.{as_version_0}
use Rattle.broker_messages.proofs.Translation.{is_translation_without, is_translation_with}
use Rattle.broker_messages.proofs.heartbeat.Heartbeat1.put_as_version_0.Goals as goal

pub returns-in-None-clause-ok : goal.returns-in-None-clause-ok
returns-in-None-clause-ok c = λ body cut.
    let h = c.args.self.now in
    on_ok_weaker c.put_without_expression.result
    (λ items. (as_version_0 h, is_translation_without (texts c.args.further.now) h body (sym c.in-None.ensures) cut, items))
    c.put_without_expression.ensures.ok

pub returns-in-Some-clause-ok : goal.returns-in-Some-clause-ok
returns-in-Some-clause-ok c = λ body cut.
    let h = c.args.self.now in
    let further = texts c.args.further.now in
    on_ok_weaker c.put_with_names.result
    (λ w. (request_body (heartbeat_request w.2.header (with_names further w.2.value)), is_translation_with further h body _ (sym c.in-Some.ensures) w.0 w.1 c.args.out.now.items c.put_with_names.new.out.items w.2 cut, w.2.items))
    c.put_with_names.ensures.ok
