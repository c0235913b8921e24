use Rattle.machine_laws.proofs.KeptOwners.{renewals_keep_owners}
use Rattle.machine_laws.proofs.laws.renewals_keep_owners.Goals as goal

pub returns : goal.returns
returns c = renewals_keep_owners c.lawful_and_even_owners_stay.ensures
