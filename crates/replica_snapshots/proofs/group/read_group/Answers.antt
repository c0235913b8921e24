use Rattle.replica_snapshots.specs.Views.{named_of}
use Rattle.replica_snapshots.proofs.Begins.{only_by}
use Rattle.replica_snapshots.proofs.GroupLaws.{named_begins}
use Rattle.replica_snapshots.proofs.group.read_group.Goals as goal

pub returns-clause-only : goal.returns-clause-only
returns-clause-only c = λ g rest fits is.
    only_by named_begins (λ x. (named_of x.0, x.1.now)) c.args.bytes.now c.read_again.result c.read_again.ensures.found g rest fits is
