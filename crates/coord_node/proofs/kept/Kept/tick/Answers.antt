use Rattle.std.proofs.Common.{arith}
use Rattle.coord_node.proofs.TickLemmas.{few_removed}
use Rattle.coord_node.proofs.kept.Kept.tick.Goals as goal

pub returns-then-removed-ne0-clause-few : goal.returns-then-removed-ne0-clause-few
returns-then-removed-ne0-clause-few c =
    omega (arith, few_removed c.args.self.now.group.state c.args.now c.epoch.ensures.sound, c.tick-removed.ensures.removed)
