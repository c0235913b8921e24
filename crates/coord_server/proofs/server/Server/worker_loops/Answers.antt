use Rattle.std.proofs.Common.{arith}
use Rattle.std.proofs.lemmas.Grind.{common_steps}
use Rattle.coord_server.proofs.server.Server.worker_loops.Goals as goal

pub loop-preserved : goal.loop-preserved
loop-preserved g c =
    let before = c.loop.invariant in
    let added = c.in_ok-worker.ensures in
    record {
      senders = grind (arith, common_steps, before.senders, added.more);
      workers = grind (arith, common_steps, before.workers, c.in_ok-push.ensures.items);
      placed = added.placed before.placed;
    }
