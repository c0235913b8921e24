use Rattle.std.proofs.Common.{map}
use Rattle.member_core.specs.Views.{settings_value}
use Rattle.world_sim.proofs.Reaching.{is_new_world, reached_first}
use Rattle.world_sim.proofs.world.World.new.Goals as goal

pub invariant_of-result : goal.invariant_of-result
invariant_of-result c =
    reached_first _ c.args.salt (map settings_value c.args.clients.items)
    (is_new_world _ c.args.salt settings_value c.args.clients.items c.in_ok-clients.clients.items c.new.ensures c.in_ok-clients.ensures)

pub returns-clause-world : goal.returns-clause-world
returns-clause-world c = is_new_world _ c.args.salt settings_value c.args.clients.items c.in_ok-clients.clients.items c.new.ensures c.in_ok-clients.ensures
