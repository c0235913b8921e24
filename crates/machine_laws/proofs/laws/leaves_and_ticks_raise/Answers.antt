use Rattle.machine_laws.proofs.RaisedEpochs.{leaves_and_ticks_raise}
use Rattle.machine_laws.proofs.laws.leaves_and_ticks_raise.Goals as goal

pub returns : goal.returns
returns c = leaves_and_ticks_raise
