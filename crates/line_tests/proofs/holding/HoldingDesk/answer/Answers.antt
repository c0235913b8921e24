use Rattle.coord_node.specs.Coordinator.{Replied}
use Rattle.line_tests.proofs.holding.HoldingDesk.answer.Goals as goal

pub returns-clause-gives : goal.returns-clause-gives
returns-clause-gives c = (Replied _, tt, tt, c.in_ok-extend_from_slice.ensures.items)
