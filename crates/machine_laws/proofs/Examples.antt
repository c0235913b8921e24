-- What the laws speak of is there.
use Rattle.machine_laws.specs.Examples.{TheMachinesLawsAreMet}
use Rattle.machine_laws.proofs.ComesAgain.{comes_again}
use Rattle.machine_laws.proofs.MovingTargets.{moves_under_range, moves_under_uniform}

pub the_machines_laws_are_met : TheMachinesLawsAreMet
the_machines_laws_are_met = record { moves_under_range = moves_under_range; moves_under_uniform = moves_under_uniform; comes_again = comes_again }
