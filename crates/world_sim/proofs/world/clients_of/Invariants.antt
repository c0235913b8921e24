use Rattle.std.proofs.Common.{◌≡◌, ◌++◌, map}
use Rattle.std.specs.Vec.Iter.{into_iter_items}
use Rattle.member_core.specs.Client.{new_client}
use Rattle.member_core.specs.Views.{settings_value}
use Rattle.world_sim.proofs.world.clients_of.Given as goal

abbrev pub invariant-loop-settings : goal.invariant-loop-settings
invariant-loop-settings l =
    record {
      parts : l.fn.each.items ≡ l.yielded ++ into_iter_items l.settings-iterator;
      made : l.clients.items ≡ map (λ s. new_client (settings_value s)) l.yielded;
    }
