-- A replica's fields as its value.
use Rattle.std.specs.Prelude.{◌<◌, ◌^◌}
use Rattle.coord_replica.specs.declared.replica.Replica.TheInside.{Inside}
use Rattle.coord_replica.specs.Replicas.{ReplicaValue}

abbrev pub replica_view : Inside → ReplicaValue
replica_view r =
    record {
      node = r.node;
      applied = r.applied;
      leadership = r.leadership;
      moment = r.moment;
      leading = r.leading;
      proposed = r.proposed;
    }

-- Its numbers are those of entries.
pub record IsReplica (r : Inside) : Type 0 where
  pub leadership : r.leadership < 2 ^ 31
  pub moment : r.moment < 2 ^ 63
  pub proposed : r.proposed < 2 ^ 63
