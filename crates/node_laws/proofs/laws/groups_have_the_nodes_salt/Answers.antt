use Rattle.node_laws.proofs.Salts.{groups_have_the_nodes_salt}
use Rattle.node_laws.proofs.laws.groups_have_the_nodes_salt.Goals as goal

pub returns : goal.returns
returns c = groups_have_the_nodes_salt
