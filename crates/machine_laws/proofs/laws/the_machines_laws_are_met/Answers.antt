use Rattle.machine_laws.proofs.Examples.{the_machines_laws_are_met}
use Rattle.machine_laws.proofs.laws.the_machines_laws_are_met.Goals as goal

pub returns : goal.returns
returns c = the_machines_laws_are_met
