use Rattle.machine_laws.proofs.AnsweredCodes.{codes_are_of_their_requests}
use Rattle.machine_laws.proofs.laws.codes_are_of_their_requests.Goals as goal

pub returns : goal.returns
returns c = codes_are_of_their_requests
