use Rattle.std.proofs.Common.{◌<◌, List, ℕ, length, ap, subst, refl}
use Rattle.std.proofs.lemmas.Result.{err_from_is_err_and}
use Rattle.world_sim.specs.Scene.{scene_view}
use Rattle.coord_node.specs.declared.event.Answered.{Answered}
use Rattle.coord_node.specs.Coordinator.{Frame}
use Rattle.coord_node.specs.Nodes.{NodeValue, coordinator_of}
use Rattle.coord_node.specs.Answers as node
use Rattle.world_sim.specs.Acts.{no_stamp}
use Rattle.world_sim.proofs.Numbered.{numbered_in}
use Rattle.world_sim.proofs.Performs.{no_commit}
use Rattle.world_sim.proofs.SceneActs.{nobody}
use Rattle.world_sim.proofs.SceneAnswers.{commit_answered, commit_brought}
use Rattle.world_sim.proofs.SceneLemmas.{numbered_index}
use Rattle.world_sim.proofs.scene.Scene.bring.Goals as goal

pub returns-in_default : goal.returns-in_default
returns-in_default c = (no_commit (scene_view c.args.self.now) c.args.number (nobody _ _ _ (ap length c.as_slice.ensures.value) c.in_default.ensures), refl)

pub returns-in_err-answered : goal.returns-in_err-answered
returns-in_err-answered c =
    let p = err_from_is_err_and c.from_residual.result c.from_residual.ensures.1 in
    let k = c.index.result.now in
    let pooled = numbered_index c.args.self.now.commits.items c.args.number c.in-Some.place k c.in-Some.ensures.0 (subst (λ j. c.in-Some.place < j) (ap length c.as_slice.ensures.value) c.in-Some.ensures.1) c.index.ensures in
    rw (p.1, p.2) ((k, pooled), ap (λ (n : NodeValue). record (scene_view c.args.self.now) { coordinator = coordinator_of n }) c.in_err-answered.ensures.err.0)

pub unreachable-requires : goal.unreachable-requires
unreachable-requires c =
    let k = c.index.result.now in
    let pooled = numbered_index c.args.self.now.commits.items c.args.number c.in-Some.place k c.in-Some.ensures.0 (subst (λ j. c.in-Some.place < j) (ap length c.as_slice.ensures.value) c.in-Some.ensures.1) c.index.ensures in
    let step = subst (λ (b : List ℕ). node.Answers (coordinator_of c.args.self.now.node) (Frame b no_stamp c.args.self.now.clock) c.in_ok-answered.answered (coordinator_of c.answer.new.self) c.new-out.result.items c.answer.new.out.items) c.body-body.ensures c.in_ok-answered.ensures.step in
    let closes = subst (λ (a : Answered). node.Answers (coordinator_of c.args.self.now.node) (Frame k.body no_stamp c.args.self.now.clock) a (coordinator_of c.answer.new.self) c.new-out.result.items c.answer.new.out.items) c.in-Closes.is step in
    absurd (commit_answered c.one_request_a_body.ensures c.args.self.now c.requires c.args.number k pooled (c.args.self.now.small k (numbered_in c.args.self.now.commits.items c.args.number k pooled)) (coordinator_of c.answer.new.self) c.new-out.result.items c.answer.new.out.items closes)

pub returns : goal.returns
returns c =
    let k = c.index.result.now in
    let pooled = numbered_index c.args.self.now.commits.items c.args.number c.in-Some.place k c.in-Some.ensures.0 (subst (λ j. c.in-Some.place < j) (ap length c.as_slice.ensures.value) c.in-Some.ensures.1) c.index.ensures in
    let step = subst (λ (b : List ℕ). node.Answers (coordinator_of c.args.self.now.node) (Frame b no_stamp c.args.self.now.clock) c.in_ok-answered.answered (coordinator_of c.answer.new.self) c.new-out.result.items c.answer.new.out.items) c.body-body.ensures c.in_ok-answered.ensures.step in
    let replies = subst (λ (a : Answered). node.Answers (coordinator_of c.args.self.now.node) (Frame k.body no_stamp c.args.self.now.clock) a (coordinator_of c.answer.new.self) c.new-out.result.items c.answer.new.out.items) c.in-Replied.is step in
    commit_brought c.one_request_a_body.ensures c.args.self.now c.requires c.args.number k pooled (c.args.self.now.small k (numbered_in c.args.self.now.commits.items c.args.number k pooled)) (coordinator_of c.answer.new.self) c.new-out.result.items c.answer.new.out.items
    c.new-out.ensures.items replies c.of.result c.of.ensures
