use Rattle.machine_laws.proofs.Heirs.{heirs_ask_as_before}
use Rattle.machine_laws.proofs.laws.heirs_ask_as_before.Goals as goal

pub returns : goal.returns
returns c = heirs_ask_as_before
