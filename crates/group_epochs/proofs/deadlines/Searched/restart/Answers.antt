use Rattle.std.proofs.Common.{arith}
use Rattle.group_epochs.proofs.deadlines.Searched.restart.Goals as goal

pub returns : goal.returns
returns c = λ records k m below. absurd (omega (arith, below))
