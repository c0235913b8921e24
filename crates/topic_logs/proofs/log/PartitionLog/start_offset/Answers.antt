use Rattle.std.proofs.Common.{ap, arith}
use Rattle.topic_logs.specs.Log.{Log, batches_of}
use Rattle.topic_logs.proofs.KeptLemmas.{start_of-end}
use Rattle.topic_logs.proofs.log.PartitionLog.start_offset.Goals as goal

pub returns-clause-before_end : goal.returns-clause-before_end
returns-clause-before_end c =
    omega (
      arith,
      start_of-end (batches_of c.self.inside.batches.items) c.self.inside.end c.self.invariant.0.consecutive,
      c.first_offset-start.ensures,
      ap (λ (l : Log). l.end) c.self.view_is,
    )
