use Rattle.replica_snapshots.specs.Views.{place_value}
use Rattle.replica_snapshots.proofs.Begins.{only_by}
use Rattle.replica_snapshots.proofs.PlaceLaws.{place_begins}
use Rattle.replica_snapshots.proofs.place.read_place.Goals as goal

pub returns-clause-only : goal.returns-clause-only
returns-clause-only c = λ p rest fits is.
    only_by place_begins (λ x. (place_value x.0, x.1.now)) c.args.bytes.now c.read_again.result c.read_again.ensures.found p rest fits is
