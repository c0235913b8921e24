use Rattle.std.proofs.Common.{arith}
use Rattle.group_epochs.proofs.Cuts.{none_before_left}
use Rattle.group_epochs.proofs.deadlines.Searched.leave_out.Goals as goal

pub returns : goal.returns
returns c = λ records m r there before.
    none_before_left records c.args.rank m r there c.args.self.now.clock c.min-self.result (omega (arith, c.min-self.ensures))
    (λ k e below. before k e (omega (arith, below, c.min-self.ensures)))
