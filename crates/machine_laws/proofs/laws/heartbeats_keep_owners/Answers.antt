use Rattle.machine_laws.proofs.KeptByHeartbeats.{heartbeats_keep_owners}
use Rattle.machine_laws.proofs.laws.heartbeats_keep_owners.Goals as goal

pub returns : goal.returns
returns c = heartbeats_keep_owners c.renewals_keep_owners.ensures
