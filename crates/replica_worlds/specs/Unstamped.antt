-- A coordinator with other stamps, and with none (ours).
use Rattle.group_types.specs.declared.stamp.Stamp.{Stamp}
use Rattle.coord_node.specs.Coordinator.{Coordinator}
use Rattle.world_sim.specs.Acts.{no_stamp}
use Rattle.replica_worlds.specs.Restamped.{restamped_group, with_values}

abbrev pub restamped : (Stamp → Stamp) → Coordinator → Coordinator
restamped other c = record c { groups = with_values (restamped_group other) c.groups }

-- each stamp is the one of nothing
abbrev pub unstamped : Coordinator → Coordinator
unstamped c = restamped (λ stamp. no_stamp) c
