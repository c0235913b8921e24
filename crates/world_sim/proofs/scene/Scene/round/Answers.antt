use Rattle.std.proofs.Common.{◌≡◌, ◌+◌, ◌<◌, suc, length, subst, arith}
use Rattle.std.proofs.lemmas.Result.{err_from_is_err_and}
use Rattle.world_sim.specs.Rounds.{HasTurn, TurnsFrom}
use Rattle.world_sim.specs.Scene.{scene_view}
use Rattle.world_sim.specs.Underway.{RoundsKeepClients}
use Rattle.world_sim.proofs.Reaching.{always}
use Rattle.world_sim.proofs.Turning.{one_more_turn, stops_round, turn_reaches, underway}
use Rattle.world_sim.proofs.scene.Scene.round.Goals as goal

pub turn-requires : goal.turn-requires
turn-requires c =
    let w = scene_view c.args.self.now in
    let between = c.requires in
    let below : c.loop-place.place < length w.clients = omega (arith, c.loop-place-test.true, c.len-count.ensures, c.args.self.now.clients.ok.0) in
    underway w (scene_view c.loop-place.self) c.loop-place.place between
    (always RoundsKeepClients c.rounds_go_on.ensures.clients between.first between.reached between.can between.rounds w between.below between.made)
    c.loop-place.invariant.turned c.loop-place.invariant.reached below

pub loop-place-preserved : goal.loop-place-preserved
loop-place-preserved c =
    let w = scene_view c.args.self.now in
    let at = scene_view c.loop-place.self in
    let new = scene_view c.turn.new.self in
    let place = c.loop-place.place in
    let next : place + 1 ≡ 1 + place = omega arith in
    let more : suc place ≡ place + 1 = omega arith in
    record {
      turned = subst (λ k. TurnsFrom 1 k w new) more (one_more_turn place 1 w at new c.loop-place.invariant.turned (subst (λ k. HasTurn at k new) next c.in_ok-turn.ensures));
      reached = turn_reaches at new (place + 1) c.loop-place.invariant.reached c.in_ok-turn.ensures;
      within = omega (arith, c.loop-place-test.true);
    }

pub returns-in_err-turn : goal.returns-in_err-turn
returns-in_err-turn c =
    let w = scene_view c.args.self.now in
    let at = scene_view c.loop-place.self in
    let below : c.loop-place.place < length w.clients = omega (arith, c.loop-place-test.true, c.len-count.ensures, c.args.self.now.clients.ok.0) in
    let p = err_from_is_err_and c.from_residual.result c.from_residual.ensures.1 in
    rw (p.1, p.2) (stops_round w at (scene_view c.turn.new.self) c.loop-place.place c.in_err-turn.field-0.0 below c.loop-place.invariant.turned c.in_err-turn.ensures)

pub returns : goal.returns
returns c =
    let w = scene_view c.args.self.now in
    let all : c.loop-place.place ≡ length w.clients = omega (arith, c.loop-place-test.false, c.loop-place.invariant.within, c.len-count.ensures, c.args.self.now.clients.ok.0) in
    subst (λ k. TurnsFrom 1 k w (scene_view c.loop-place.self)) all c.loop-place.invariant.turned
