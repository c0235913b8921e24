use Rattle.std.proofs.Common.{◌≡◌, ◌+◌, suc, length, subst, arith}
use Rattle.std.proofs.lemmas.Result.{err_from_is_err_and}
use Rattle.world_sim.specs.Rounds.{Rounds}
use Rattle.world_sim.specs.Scene.{scene_view}
use Rattle.world_sim.specs.Underway.{RoundsKeepClients}
use Rattle.world_sim.proofs.Reaching.{always}
use Rattle.world_sim.proofs.Turning.{one_more_round, round_reaches, stops_settling}
use Rattle.world_sim.proofs.scene.Scene.make_rounds.Goals as goal

pub round-requires : goal.round-requires
round-requires c =
    record {
      first = scene_view c.args.self.now;
      reached = c.requires.reached;
      can = c.requires.can;
      rounds = c.loop-round._round;
      below = c.loop-round-test.true;
      made = c.loop-round.invariant.made;
      now = c.loop-round.invariant.reached;
    }

pub loop-round-preserved : goal.loop-round-preserved
loop-round-preserved c =
    let w = scene_view c.args.self.now in
    let at = scene_view c.loop-round.self in
    let new = scene_view c.round.new.self in
    let round = c.loop-round._round in
    let more : suc round ≡ round + 1 = omega arith in
    record {
      made = subst (λ k. Rounds k w new) more (one_more_round round w at new c.loop-round.invariant.made c.in_ok-round.ensures);
      reached = round_reaches at new c.loop-round.invariant.reached c.in_ok-round.ensures;
      within = omega (arith, c.loop-round-test.true);
    }

pub returns-in_err-round : goal.returns-in_err-round
returns-in_err-round c =
    let w = scene_view c.args.self.now in
    let at = scene_view c.loop-round.self in
    let round = c.loop-round._round in
    let same : length at.clients ≡ length w.clients = always RoundsKeepClients c.rounds_go_on.ensures.clients w c.requires.reached c.requires.can round at c.loop-round-test.true c.loop-round.invariant.made in
    let p = err_from_is_err_and c.from_residual.result c.from_residual.ensures.1 in
    rw (p.1, p.2) (stops_settling w at (scene_view c.round.new.self) round c.in_err-round.field-0.0 c.requires.can c.loop-round-test.true same c.loop-round.invariant.made c.in_err-round.ensures)

pub returns : goal.returns
returns c =
    let w = scene_view c.args.self.now in
    let all : c.loop-round._round ≡ 3 = omega (arith, c.loop-round-test.false, c.loop-round.invariant.within) in
    (c.requires.can, subst (λ k. Rounds k w (scene_view c.loop-round.self)) all c.loop-round.invariant.made)
