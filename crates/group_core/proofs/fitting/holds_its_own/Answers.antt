use Rattle.group_reconcile.specs.Holders.{pairs}
use Rattle.group_core.proofs.Finishing.{holds_none, holds_own}
use Rattle.group_core.proofs.fitting.holds_its_own.Goals as goal

pub returns-in-Some : goal.returns-in-Some
returns-in-Some c =
    holds_own (pairs c.args.grants.now) c.args.target.now.owners c.args.id.now c.in-Some.held.now c.of.result.partitions c.are_wanted.result c.in-Some.ensures c.of.ensures.partitions c.are_wanted.ensures

pub returns-in-None : goal.returns-in-None
returns-in-None c = holds_none (pairs c.args.grants.now) c.args.target.now.owners c.args.id.now c.in-None.ensures
