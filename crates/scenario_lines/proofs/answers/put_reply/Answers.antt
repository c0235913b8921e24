use Rattle.std.proofs.lemmas.Result.{on_ok_weaker}
use Rattle.scenario_lines.proofs.Answered.{reply_put}
use Rattle.scenario_lines.proofs.answers.put_reply.Goals as goal

pub returns-in-Ok-Heartbeat : goal.returns-in-Ok-Heartbeat
returns-in-Ok-Heartbeat c =
    let read = c.in-Ok-Heartbeat in
    on_ok_weaker c.put_heartbeat_reply.result
    (reply_put c.args.world.now c.args.number c.in-Some.body.now c.args.page.now c.put_heartbeat_reply.new.page read.field-0 read.field-0-0 read.reply
    c.in-Some.ensures read.ensures.found.1 read.field-0-is c.requires)
    c.put_heartbeat_reply.ensures
