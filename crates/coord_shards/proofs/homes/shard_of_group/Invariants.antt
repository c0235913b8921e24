use Rattle.std.proofs.Common.{◌≡◌, ◌*◌, ◌≤◌, sum, take}
use Rattle.coord_shards.proofs.homes.shard_of_group.Given as goal

abbrev pub invariant-loop-byte : goal.invariant-loop-byte
invariant-loop-byte l =
    record {
      sum : l.sum ≡ sum (take l.byte-index l.byte-items);
      small : l.sum ≤ 255 * l.byte-index;
    }
