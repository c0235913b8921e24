use Rattle.std.proofs.Common.{arith}
use borrow.Author.Tests.{ltb-true, ltb-false}
use Rattle.scenario_text.proofs.TopicWords.{texts, two_words, word_at}
use Rattle.scenario_lines.proofs.Asked.{on_err, no_quit, named_two, length-are}
use Rattle.scenario_lines.proofs.act.quit.Goals as goal
use Rattle.scenario_lines.proofs.act.quit.Goals.{in_default-via-then-arguments-lt2, in_default-via-else-arguments-lt2+else-arguments-lt3}

pub returns-in_default-clause-refused : goal.returns-in_default-clause-refused
returns-in_default-clause-refused c = λ deed spelled.
    no_quit c.args.cast.now (texts c.args.arguments.now) deed
    (λ client n.
    let size = length-are c.args.arguments.now _ n.are in
    elim c.in_default.branch [
      | in_default-via-then-arguments-lt2 w ↦ omega (arith, ltb-true, size)
      | in_default-via-else-arguments-lt2+else-arguments-lt3 w ↦ omega (arith, ltb-true, ltb-false, size)
    ])
    (λ client n.
    let size = length-are c.args.arguments.now _ n.are in
    elim c.in_default.branch [
      | in_default-via-then-arguments-lt2 w ↦ omega (arith, ltb-true, size)
      | in_default-via-else-arguments-lt2+else-arguments-lt3 w ↦ omega (arith, ltb-true, ltb-false, size)
    ])
    spelled

pub returns-in_err-client-clause-refused : goal.returns-in_err-client-clause-refused
returns-in_err-client-clause-refused c =
    on_err c.from_residual.result _ (λ deed spelled.
    no_quit c.args.cast.now (texts c.args.arguments.now) deed
    (λ client n. c.in_err-client.ensures.refused (named_two c.args.cast.now (texts c.args.arguments.now) (word_at c.args.arguments.now 0) (word_at c.args.arguments.now 1) _ client (two_words c.args.arguments.now c.in-len2.len_at_least c.in-len2.len_below) n).0.is_name)
    (λ client n. c.in_err-client.ensures.refused (named_two c.args.cast.now (texts c.args.arguments.now) (word_at c.args.arguments.now 0) (word_at c.args.arguments.now 1) _ client (two_words c.args.arguments.now c.in-len2.len_at_least c.in-len2.len_below) n).0.is_name)
    spelled)
