use Rattle.std.proofs.Common.{sym, subst}
use Rattle.coord_node.specs.Coordinator.{Coordinator}
use Rattle.coord_shards.specs.Shard.{ShardState}
use Rattle.coord_shards.specs.Replay.{IsReached, Replay}
use Rattle.coord_shards.proofs.shards.Shards.read.Goals as goal

-- a shard's entries lead to its present state
reached : (s : ShardState) → Replay s → IsReached s.present
reached s is = record { shards = s.shards; salt = s.salt; home = s.number; entries = is.entries; run = is.run }

pub read-requires : goal.read-requires
read-requires g c =
    subst (λ (state : Coordinator). IsReached state) (sym c.present.ensures.node) (reached _ c.present.ensures.replay)
