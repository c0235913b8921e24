use Rattle.group_types.proofs.Heirs.{heirs_have_all}
use Rattle.group_types.proofs.laws.heirs_have_all.Goals as goal

pub returns : goal.returns
returns c = heirs_have_all
