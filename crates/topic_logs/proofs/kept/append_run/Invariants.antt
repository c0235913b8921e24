use Rattle.std.proofs.Common.{◌≡◌, ◌++◌, length, take, drop}
use Rattle.topic_logs.specs.Log.{batches_of, served, joined}
use Rattle.topic_logs.proofs.kept.append_run.Given as goal

abbrev pub invariant-loop-at : goal.invariant-loop-at
invariant-loop-at l =
    (l.out.items ++ joined (served l.whole l.room (batches_of (drop l.at l.batches.items)))
    ≡ l.initial.out.items ++ joined (served l.initial.whole l.initial.room (batches_of (drop l.fn.from l.batches.items))))
    × (take (length l.initial.out.items) l.out.items ≡ l.initial.out.items)
