use Rattle.std.proofs.Common.{◌≡◌, length}
use Rattle.topic_logs.specs.Log.{batches_of, retained, size_of}
use Rattle.topic_logs.proofs.kept.drop_oldest.Given as goal

abbrev pub invariant-loop-size : goal.invariant-loop-size
invariant-loop-size l =
    (retained l.retain (batches_of l.batches.items) ≡ retained l.retain (batches_of l.initial.batches.items))
    × (l.size ≡ size_of (batches_of l.batches.items))

abbrev pub decreases-loop-size : goal.decreases-loop-size
decreases-loop-size l = length l.batches.items
