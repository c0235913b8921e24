use Rattle.machine_laws.proofs.Whole.{ticks_count_who_goes}
use Rattle.machine_laws.proofs.laws.ticks_count_who_goes.Goals as goal

pub returns : goal.returns
returns c = ticks_count_who_goes
