use Rattle.uniform_assign.proofs.Soundness.{lawful_and_even_owners_stay}
use Rattle.uniform_assign.proofs.laws.lawful_and_even_owners_stay.Goals as goal

pub returns : goal.returns
returns c = lawful_and_even_owners_stay
