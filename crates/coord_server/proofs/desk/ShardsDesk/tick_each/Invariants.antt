use Rattle.std.proofs.Common.{◌≡◌}
use Rattle.coord_shards.specs.declared.event.Event.TheVariants.{Tick}
use Rattle.coord_server.specs.Rounds.{CallsEach}
use Rattle.coord_server.proofs.desk.ShardsDesk.tick_each.Given as goal

abbrev pub invariant-loop-shard : goal.invariant-loop-shard
invariant-loop-shard g l =
    CallsEach l.initial.self.shards.now (λ shard. Tick shard l.initial.moment) l.shard l.initial.self.seat l.self.seat
    × (l.self ≡ record l.initial.self { seat = l.self.seat })
