use Rattle.group_types.proofs.GivenFields.{requests_are_stored}
use Rattle.group_types.proofs.laws.requests_are_stored.Goals as goal

pub returns : goal.returns
returns c = requests_are_stored
