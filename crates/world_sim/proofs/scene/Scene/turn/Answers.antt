use Rattle.std.proofs.Common.{◌+◌, sym, subst}
use Rattle.std.proofs.lemmas.Result.{err_from_is_err_and}
use Rattle.world_sim.specs.World.{World}
use Rattle.world_sim.specs.Rounds.{IsTold, BeforeReleasing}
use Rattle.world_sim.specs.Scene.{scene_view}
use Rattle.world_sim.proofs.Turning.{turned_not}
use Rattle.world_sim.proofs.scene.Scene.turn.Goals as goal

pub returns-in_err-tell : goal.returns-in_err-tell
returns-in_err-tell c =
    let p = err_from_is_err_and c.from_residual.result c.from_residual.ensures.1 in
    rw (p.1, p.2) (turned_not (scene_view c.args.self.now) (scene_view c.tell.new.self) (c.args.place + 1) c.in_err-tell.field-0.0 c.in_err-tell.ensures.told)

pub returns-in_err-release_all : goal.returns-in_err-release_all
returns-in_err-release_all c =
    let p = err_from_is_err_and c.from_residual-in_err-release_all.result c.from_residual-in_err-release_all.ensures.1 in
    rw (p.1, p.2) (BeforeReleasing (subst (λ (x : World). IsTold (scene_view c.args.self.now) (c.args.place + 1) x) (sym c.in_err-release_all.ensures) c.in_ok-tell.ensures.told))

pub returns : goal.returns
returns c =
    record {
      told = scene_view c.tell.new.self;
      is_told = c.in_ok-tell.ensures.told;
      client = c.in_ok-release_all.ensures.0;
      is_client = c.in_ok-release_all.ensures.1;
      states = c.in_ok-release_all.ensures.2;
      releases = c.in_ok-release_all.ensures.3;
    }
