use Rattle.std.proofs.Common.{◌≡◌, ◌≤◌}
use Rattle.coord_shards.specs.declared.event.Event.TheVariants.{Image}
use Rattle.coord_server.specs.Rounds.{TellsEach}
use Rattle.coord_server.proofs.desk.ShardsDesk.set_image.Given as goal

abbrev pub invariant-loop-shard : goal.invariant-loop-shard
invariant-loop-shard g l =
    TellsEach l.initial.self.shards.now (λ shard. Image shard l.initial.image) l.shard l.initial.self.seat l.self.seat
    × (l.self ≡ record l.initial.self { seat = l.self.seat })
    × (l.shard ≤ l.initial.self.shards.now.shards)
