use Rattle.std.proofs.Common.{◌∙◌}
use Rattle.topic_expressions.proofs.NameLemmas.{one_more, no_more}
use Rattle.topic_expressions.proofs.names.matched_by.Goals as goal
use Rattle.topic_expressions.proofs.names.matched_by.Goals.{then-is_match+in_ok-push, else-is_match}

pub loop-name-preserved : goal.loop-name-preserved
loop-name-preserved c =
    let so_far = c.loop-name.invariant in
    let names = c.args.names.now in
    elim c.if-is_match.branch [
      | then-is_match+in_ok-push w ↦ (
        c.is_match.ensures.same ∙ so_far.0,
        one_more _ _ c.is_match.result names c.loop-name.found.items c.if-is_match.found.items c.loop-name.name-index _ c.loop-name-test.true so_far.1 so_far.0 c.is_match.ensures.found w.if-is_match.true
            (let now = w.found-is in let items = w.in_ok-push.ensures.items in cc),
      )
      | else-is_match w ↦ (
        c.is_match.ensures.same ∙ so_far.0,
        no_more _ _ c.is_match.result names c.loop-name.found.items c.if-is_match.found.items c.loop-name.name-index _ c.loop-name-test.true so_far.1 so_far.0 c.is_match.ensures.found w.if-is_match.false
            (let now = w.found-is in cc),
      )
    ]
