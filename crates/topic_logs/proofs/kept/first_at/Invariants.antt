use Rattle.std.proofs.Common.{◌≡◌, drop}
use Rattle.topic_logs.specs.Log.{batches_of, at_moment}
use Rattle.topic_logs.proofs.kept.first_at.Given as goal

abbrev pub invariant-loop-at : goal.invariant-loop-at
invariant-loop-at l = at_moment l.moment (batches_of (drop l.at l.batches.items)) ≡ at_moment l.moment (batches_of l.batches.items)
