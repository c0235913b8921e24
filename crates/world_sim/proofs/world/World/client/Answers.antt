use Rattle.std.proofs.Common.{◌<◌, length, ap, subst}
use Rattle.world_sim.proofs.SceneActs.{nobody}
use Rattle.world_sim.proofs.SceneLemmas.{numbered_index}
use Rattle.world_sim.proofs.world.World.client.Goals as goal

pub returns-in_default : goal.returns-in_default
returns-in_default c = rw (← c.self.view_is) (nobody _ _ _ (ap length c.as_slice.ensures.value) c.in_default.ensures)

pub returns : goal.returns
returns c =
    rw (← c.self.view_is)
    (record {
      client = c.index-client.result.now;
      is_client = numbered_index _ _ _ _ c.in-Some.ensures.0 (subst (λ k. c.in-Some.place < k) (ap length c.as_slice.ensures.value) c.in-Some.ensures.1) c.index-client.ensures;
      state = c.state.ensures;
      id = c.id.ensures;
      epoch = c.epoch.ensures;
      own = c.own.ensures;
    })
