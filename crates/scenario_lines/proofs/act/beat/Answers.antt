use Rattle.std.proofs.Common.{[], ◌∷◌, ap, ◌∙◌, arith}
use borrow.Author.Tests.{ltb-true, ltb-false}
use Rattle.scenario_text.proofs.TopicWords.{texts, two_words, word_at}
use Rattle.scenario_lines.proofs.Asked.{on_err, no_beat, named_two, length-are}
use Rattle.scenario_lines.proofs.act.beat.Goals as goal
use Rattle.scenario_lines.proofs.act.beat.Goals.{in_default-via-then-arguments-lt2, in_default-via-else-arguments-lt2+else-arguments-lt3}

pub returns-in_default-clause-refused : goal.returns-in_default-clause-refused
returns-in_default-clause-refused c = λ deed spelled.
    no_beat c.args.cast.now (texts c.args.arguments.now) deed
    (λ client kind n.
    let size = length-are c.args.arguments.now _ n.are in
    elim c.in_default.branch [
      | in_default-via-then-arguments-lt2 w ↦ omega (arith, ltb-true, size)
      | in_default-via-else-arguments-lt2+else-arguments-lt3 w ↦ omega (arith, ltb-true, ltb-false, size)
    ])
    spelled

pub returns-in_err-client-clause-refused : goal.returns-in_err-client-clause-refused
returns-in_err-client-clause-refused c =
    on_err c.from_residual.result _ (λ deed spelled.
    no_beat c.args.cast.now (texts c.args.arguments.now) deed
    (λ client kind n.
    let both = named_two c.args.cast.now (texts c.args.arguments.now) (word_at c.args.arguments.now 0) (word_at c.args.arguments.now 1) _ client (two_words c.args.arguments.now c.in-len2.len_at_least c.in-len2.len_below) n in
    c.in_err-client.ensures.refused both.0.is_name)
    spelled)

pub returns-in_err-kind-clause-refused : goal.returns-in_err-kind-clause-refused
returns-in_err-kind-clause-refused c =
    on_err c.from_residual-in_err-kind.result _ (λ deed spelled.
    no_beat c.args.cast.now (texts c.args.arguments.now) deed
    (λ client kind n.
    let both = named_two c.args.cast.now (texts c.args.arguments.now) (word_at c.args.arguments.now 0) (word_at c.args.arguments.now 1) _ client (two_words c.args.arguments.now c.in-len2.len_at_least c.in-len2.len_below) n in
    c.in_err-kind.ensures.refused kind both.1)
    spelled)

pub returns-clause-asked : goal.returns-clause-asked
returns-clause-asked c =
    record {
      name = word_at c.args.arguments.now 0;
      is_client = c.in_ok-client.ensures.client;
      are = two_words c.args.arguments.now c.in-len2.len_at_least c.in-len2.len_below ∙ ap (λ w. word_at c.args.arguments.now 0 ∷ w ∷ []) c.in_ok-kind.ensures.kind;
    }
