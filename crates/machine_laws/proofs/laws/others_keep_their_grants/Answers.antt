use Rattle.machine_laws.proofs.OtherGrants.{others_keep_their_grants}
use Rattle.machine_laws.proofs.laws.others_keep_their_grants.Goals as goal

pub returns : goal.returns
returns c = others_keep_their_grants
