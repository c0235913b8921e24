use Rattle.range_assign.proofs.Places.{longer_run_of, shorter_run_of}
use Rattle.range_assign.proofs.range.run_of.Goals as goal

pub returns-then-place-longer_runs-clause-run : goal.returns-then-place-longer_runs-clause-run
returns-then-place-longer_runs-clause-run c = λ i within.
    longer_run_of c.args.count c.args.subscribers c.args.place i c.if-place-longer_runs.true

pub returns-else-place-longer_runs-clause-run : goal.returns-else-place-longer_runs-clause-run
returns-else-place-longer_runs-clause-run c = λ i within.
    shorter_run_of c.args.count c.args.subscribers c.args.place i c.requires within c.if-place-longer_runs.false
