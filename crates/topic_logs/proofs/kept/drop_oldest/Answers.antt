use Rattle.std.proofs.Common.{◌∙◌, sym, arith}
use Rattle.topic_logs.specs.Log.{batches_of}
use Rattle.topic_logs.proofs.KeptLemmas.{retained-few, retained-fits}
use Rattle.topic_logs.proofs.kept.drop_oldest.Goals as goal

pub returns-else-len-gt1-clause-batches : goal.returns-else-len-gt1-clause-batches
returns-else-len-gt1-clause-batches c =
    sym (retained-few c.args.retain c.loop-size.batches.items (omega (arith, c.loop-size.batches.ok))) ∙ c.loop-size.invariant.0

pub returns-after-loop-size-clause-batches : goal.returns-after-loop-size-clause-batches
returns-after-loop-size-clause-batches c =
    sym (retained-fits c.args.retain (batches_of c.loop-size.batches.items) (omega arith)) ∙ c.loop-size.invariant.0
