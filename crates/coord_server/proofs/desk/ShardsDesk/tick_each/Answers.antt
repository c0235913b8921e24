use Rattle.std.proofs.Common.{refl}
use Rattle.coord_server.proofs.DeskLemmas.{next_called, none_called}
use Rattle.coord_server.proofs.desk.ShardsDesk.tick_each.Goals as goal

pub loop-shard-init : goal.loop-shard-init
loop-shard-init g c = (none_called _ _ _, refl)

pub loop-shard-preserved : goal.loop-shard-preserved
loop-shard-preserved g c =
    let desk = c.loop-shard.invariant.1 in (
      next_called _ _ _ c.loop-shard.shard _ c.loop-shard.self.seat _ c.call.result (λ i. (desk i).shards.now) c.loop-shard.invariant.0 c.call.ensures.call,
      rw desk at c.call.ensures.others,
    )
