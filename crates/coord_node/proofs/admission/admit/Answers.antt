use Rattle.std.proofs.Common.{refl, sym}
use Rattle.coord_node.specs.NodeView.{fails}
use Rattle.coord_node.proofs.admission.admit.Goals as goal

pub returns-else-succeeds-clause-admitted : goal.returns-else-succeeds-clause-admitted
returns-else-succeeds-clause-admitted c = fails (sym c.if-succeeds.ensures) refl refl
