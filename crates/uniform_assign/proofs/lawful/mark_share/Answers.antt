use Rattle.std.proofs.Common.{ap, subst, ◌∙◌}
use Rattle.std.specs.Slice.Iter.{iter_rest}
use Rattle.uniform_assign.proofs.Staying.{IsMarking, IsMarking-next, IsMarking-none}
use Rattle.uniform_assign.proofs.lawful.mark_share.Goals as goal

pub loop-partition-init : goal.loop-partition-init
loop-partition-init c =
    IsMarking-none c.args.topics.now c.args.named.now c.args.set.now c.args.marks.now.items (iter_rest c.into_iter-partition-iterator.result)
    (ap iter_rest c.into_iter-partition-iterator.ensures.into_iter_gives ∙ c.iter-partition-items.ensures.rest)

pub loop-partition-preserved : goal.loop-partition-preserved
loop-partition-preserved c =
    let topics = c.args.topics.now in
    let named = c.args.named.now in
    let set = c.args.set.now in
    let old = c.args.marks.now.items in
    let marks = c.loop-partition.marks.items in
    IsMarking-next topics named set old c.in-Some.partition.now (iter_rest c.next.new.self) marks c.mark.new.marks.items c.in-Some-place_in.at c.in-Some-place_in.index
    (subst (λ rest. IsMarking topics named set rest old marks) c.in-Some.ensures.steps c.loop-partition.invariant) c.in-Some-place_in.ensures c.mark.ensures
