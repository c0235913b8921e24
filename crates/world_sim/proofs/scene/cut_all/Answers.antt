use Rattle.std.proofs.Common.{◌≡◌, ◌<◌, ◌≤◌, length, drop, set, sym, ap, subst, ◌∙◌}
use Rattle.coord_node.specs.Nodes.{coordinator_of}
use Rattle.world_sim.specs.World.{cut}
use Rattle.world_sim.proofs.Cutting.{before_rest, turned, whole}
use Rattle.world_sim.proofs.scene.cut_all.Goals as goal

pub loop-commit-preserved : goal.loop-commit-preserved
loop-commit-preserved c =
    let below : c.loop-commit.commit-index < length c.args.commits.now.items = subst (λ list. c.loop-commit.commit-index < length list) c.deref_mut-commit-items.ensures.value c.loop-commit-test.true in
    ap (λ k. set c.loop-commit.commit-items c.loop-commit.commit-index k) c.cut.ensures
    ∙ turned (cut (coordinator_of c.args.node.now)) c.args.commits.now.items c.loop-commit.commit-items c.loop-commit.commit-index _ c.loop-commit.invariant below

pub returns : goal.returns
returns c =
    let xs = c.args.commits.now.items in
    let all : length c.loop-commit.commit-items ≡ length xs = c.loop-commit.auto.commit-items ∙ ap length c.deref_mut-commit-items.ensures.value in
    let past : length xs ≤ c.loop-commit.commit-index = subst (λ list. length list ≤ c.loop-commit.commit-index) c.deref_mut-commit-items.ensures.value c.loop-commit-test.false in
    before_rest c.loop-commit.commit-items (drop (length c.loop-commit.commit-items) xs) c.args.commits.now.len (c.args.commits.now.ok.0 ∙ sym all)
    ∙ c.loop-commit.invariant
    ∙ whole (cut (coordinator_of c.args.node.now)) xs c.loop-commit.commit-index past
