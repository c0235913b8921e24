use Rattle.std.proofs.Common.{◌<◌, ◌≤◌, suc, length, refl, sym, ◌∙◌, true≢false, arith}
use Rattle.coord_node.specs.Nodes.{coordinator_of}
use Rattle.member_core.specs.Client.{Client}
use Rattle.world_sim.specs.Fitting.{IsFit}
use Rattle.world_sim.specs.Invariant.{Keeps}
use Rattle.world_sim.specs.Scene.{scene_view}
use Rattle.world_sim.proofs.Fits.{all_fit, can_settle, each_fits, one_more_fit}
use Rattle.world_sim.proofs.Grouped.{are_grouped}
use Rattle.world_sim.proofs.Reaching.{always}
use Rattle.world_sim.proofs.SceneLemmas.{indexed}
use Rattle.world_sim.proofs.scene.Scene.may_settle.Goals as goal

pub returns-then-not-is_fit : goal.returns-then-not-is_fit
returns-then-not-is_fit c =
    let s = c.args.self.now in
    let w = scene_view s in
    let below : c.loop-place.place < length s.clients.items = omega (arith, c.loop-place-test.true, c.len-place-end.ensures, s.clients.ok.0) in
    let here = indexed s.clients.items c.loop-place.place c.index.result.now below c.index.ensures in
    let keeps = always Keeps c.every_act_keeps_the_invariant.ensures w c.requires in (
      λ never. absurd (true≢false (sym never)),
      λ can. sym c.if-not-is_fit.true ∙ c.is_fit.ensures.1 (all_fit w keeps can (suc c.loop-place.place) c.index.result.now here),
    )

pub loop-place-preserved : goal.loop-place-preserved
loop-place-preserved c =
    let s = c.args.self.now in
    let below : c.loop-place.place < length s.clients.items = omega (arith, c.loop-place-test.true, c.len-place-end.ensures, s.clients.ok.0) in
    let here = indexed s.clients.items c.loop-place.place c.index.result.now below c.index.ensures in
    one_more_fit (λ (x : Client). IsFit (coordinator_of s.node) s.clients.items x) s.clients.items c.loop-place.place c.index.result.now here (c.is_fit.ensures.0 c.if-not-is_fit.false) c.loop-place.invariant

pub returns : goal.returns
returns c =
    let s = c.args.self.now in
    let w = scene_view s in
    let past : length s.clients.items ≤ c.loop-place.place = omega (arith, c.loop-place-test.false, c.len-place-end.ensures, s.clients.ok.0) in
    let keeps = always Keeps c.every_act_keeps_the_invariant.ensures w c.requires in
    let grouped = are_grouped c.one_request_a_body.ensures c.every_act_keeps_the_invariant.ensures w c.requires in
    (λ yes. can_settle w keeps grouped (each_fits w c.loop-place.place c.loop-place.invariant past), λ can. refl)
