use Rattle.std.proofs.Common.{◌≤◌}
use Rattle.world_sim.specs.Reached.{IsReached}
use Rattle.world_sim.specs.Rounds.{TurnsFrom}
use Rattle.world_sim.specs.Scene.{scene_view}
use Rattle.world_sim.proofs.scene.Scene.round.Given as goal

abbrev pub invariant-loop-place : goal.invariant-loop-place
invariant-loop-place l =
    record {
      turned : TurnsFrom 1 l.place (scene_view l.fn.self) (scene_view l.self);
      reached : IsReached (scene_view l.self);
      within : l.place ≤ l.count;
    }
