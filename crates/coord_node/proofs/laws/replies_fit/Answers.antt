use Rattle.coord_node.proofs.LengthLemmas.{replies_fit}
use Rattle.coord_node.proofs.laws.replies_fit.Goals as goal

pub returns : goal.returns
returns c = replies_fit
