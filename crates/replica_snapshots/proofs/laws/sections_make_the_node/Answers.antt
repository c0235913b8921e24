use Rattle.replica_snapshots.proofs.SectionLaws.{sections_make_the_node}
use Rattle.replica_snapshots.proofs.laws.sections_make_the_node.Goals as goal

pub returns : goal.returns
returns c = sections_make_the_node
