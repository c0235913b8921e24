use Rattle.std.proofs.Common.{rules, ◌≡◌, ap, sym, subst, to_z, of_z, w32}
use Rattle.group_types.specs.HeartbeatStep as group
use Rattle.group_core.specs.Outcome.{answer_of, reply_of}
use Rattle.coord_node.specs.declared.event.Answered.TheVariants as answered
use Rattle.coord_node.specs.Answers.{IsSent}
use Rattle.coord_node.proofs.AnswerLemmas.{sent_reply}
use Rattle.coord_node.proofs.node.send.Goals as goal

pub returns-in-Reply : goal.returns-in-Reply
returns-in-Reply c =
    let passed : to_z w32 (of_z w32 c.args.correlation) ≡ c.args.correlation = search rules in
    subst (λ (a : group.Answer). IsSent c.args.correlation a answered.Replied c.args.out.now.items c.put.new.out.items) (sym (ap answer_of c.in-Reply.is))
    (sent_reply c.args.correlation _ (reply_of c.in-Reply.reply) c.args.out.now.items c.put.new.out.items passed c.put.ensures)
