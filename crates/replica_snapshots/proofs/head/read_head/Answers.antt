use Rattle.replica_snapshots.specs.Views.{head_value}
use Rattle.replica_snapshots.proofs.Begins.{only_by}
use Rattle.replica_snapshots.proofs.GroupLaws.{head_begins}
use Rattle.replica_snapshots.proofs.head.read_head.Goals as goal

pub returns-clause-only : goal.returns-clause-only
returns-clause-only c = λ h rest fits is.
    only_by head_begins (λ x. (head_value x.0, x.1.now)) c.args.bytes.now c.read_again.result c.read_again.ensures.found h rest fits is
