use Rattle.group_core.proofs.Finishing.{owners_fit_by}
use Rattle.group_core.proofs.owners.owners_fit.Goals as goal

pub returns : goal.returns
returns c =
    owners_fit_by c.args.records.now.records c.args.view.now c.in_ok-counts.counts c.counts_of.ensures.sound c.in_ok-counts.ensures.counts
    c.args.shares.now c.shares_fit.result c.shares_fit.ensures
