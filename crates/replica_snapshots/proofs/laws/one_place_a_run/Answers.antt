use Rattle.replica_snapshots.proofs.PlaceLaws.{place_begins}
use Rattle.replica_snapshots.proofs.laws.one_place_a_run.Goals as goal

pub returns : goal.returns
returns c = place_begins.holds
