use Rattle.std.proofs.Common.{◌≡◌, ◌≤◌, ◌++◌, length, map, vec_capacity, vec_len}
use Rattle.std.specs.Vec.Iter.{into_iter_items}
use Rattle.world_sim.specs.Acting.{act_value}
use Rattle.world_sim.specs.Running.{AllActed}
use Rattle.world_sim.proofs.world.World.run.Given as goal

abbrev pub invariant-loop-act : goal.invariant-loop-act
invariant-loop-act l =
    record {
      parts : l.fn.acts.items ≡ l.yielded ++ into_iter_items l.act-iterator;
      steps : AllActed l.fn.self (map act_value l.yielded) l.answers.items l.self;
      count : vec_len l.answers ≡ length l.yielded;
      room : length l.fn.acts.items ≤ vec_capacity l.answers;
    }
