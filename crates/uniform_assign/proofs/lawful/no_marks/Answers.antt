use Rattle.std.proofs.Common.{ap, ◌∙◌}
use Rattle.uniform_assign.specs.Marks.{is_marked}
use Rattle.uniform_assign.proofs.Staying.{pushed_blank}
use Rattle.uniform_assign.proofs.lawful.no_marks.Goals as goal

pub loop-topic-preserved : goal.loop-topic-preserved
loop-topic-preserved c = λ t i.
    ap (λ marks. is_marked marks t i) c.in_ok-push.ensures.items
    ∙ pushed_blank c.loop-topic.marks.items c.in_ok-vec.field-0 c.topic-item.result.count (c.in_ok-vec.ensures.items_if_clones_equal (λ y same. same)) c.loop-topic.invariant t i
