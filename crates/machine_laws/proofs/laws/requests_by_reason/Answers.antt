use Rattle.machine_laws.proofs.RequestReasons.{requests_by_reason}
use Rattle.machine_laws.proofs.laws.requests_by_reason.Goals as goal

pub returns : goal.returns
returns c = requests_by_reason
