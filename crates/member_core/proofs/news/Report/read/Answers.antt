use Rattle.kip_msgs.specs.Views.{reply_value}
use Rattle.member_core.proofs.Reports.{is_told_if}
use Rattle.member_core.proofs.news.Report.read.Goals as goal

pub returns-in-Ok : goal.returns-in-Ok
returns-in-Ok c =
    is_told_if c.args.number c.args.body.now (reply_value c.in-Ok.reply) c.answering.result c.in-Ok.ensures.found.0 c.in-Ok.ensures.found.1 c.answering.ensures.news c.answering.ensures.code
