use Rattle.std.proofs.Common.{◌≤◌}
use Rattle.world_sim.specs.Reached.{IsReached}
use Rattle.world_sim.specs.Rounds.{Rounds}
use Rattle.world_sim.specs.Scene.{scene_view}
use Rattle.world_sim.proofs.scene.Scene.make_rounds.Given as goal

abbrev pub invariant-loop-round : goal.invariant-loop-round
invariant-loop-round l =
    record {
      made : Rounds l._round (scene_view l.fn.self) (scene_view l.self);
      reached : IsReached (scene_view l.self);
      within : l._round ≤ 3;
    }
