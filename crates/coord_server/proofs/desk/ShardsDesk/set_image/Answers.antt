use Rattle.std.proofs.Common.{refl, arith}
use Rattle.coord_server.proofs.DeskLemmas.{next_told, none_told}
use Rattle.coord_server.proofs.desk.ShardsDesk.set_image.Goals as goal

pub loop-shard-init : goal.loop-shard-init
loop-shard-init g c = (none_told _ _ _, refl, omega arith)

pub loop-shard-preserved : goal.loop-shard-preserved
loop-shard-preserved g c =
    let (told, desk, low) = c.loop-shard.invariant in
    let (given, taken) = c.in_ok-tell.ensures.told in
    let below = c.loop-shard-test.true in
    let many = c.shards-shard-end.ensures.number in (
      next_told _ _ _ c.loop-shard.shard _ c.loop-shard.self.seat _ given (λ i. (desk i).shards.now) told taken,
      rw desk at c.in_ok-tell.ensures.others,
      omega arith,
    )
