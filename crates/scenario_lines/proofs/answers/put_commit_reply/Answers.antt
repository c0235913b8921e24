use Rattle.std.proofs.lemmas.Result.{on_ok_weaker}
use Rattle.scenario_lines.proofs.Answered.{codes_put}
use Rattle.scenario_lines.proofs.answers.put_commit_reply.Goals as goal

pub returns-in-Ok-Commit : goal.returns-in-Ok-Commit
returns-in-Ok-Commit c =
    let read = c.in-Ok-Commit in
    on_ok_weaker c.put_codes.result
    (codes_put c.args.body.now c.args.page.now c.put_codes.new.page read.field-0 read.field-0-0 read.reply read.ensures.found.1 read.field-0-is c.requires)
    c.put_codes.ensures
