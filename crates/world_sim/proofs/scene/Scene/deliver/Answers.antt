use Rattle.std.proofs.Common.{◌∙◌, ◌++◌, ◌∷◌, ◌<◌, [], List, ap, length, refl, subst}
use Rattle.std.proofs.lemmas.Result.{err_from_is_err_and}
use Rattle.coord_node.specs.Nodes.{coordinator_of}
use Rattle.world_sim.specs.declared.mail.Reply as answer
use Rattle.world_sim.specs.Mail.{request_value}
use Rattle.world_sim.specs.Scene.{scene_view}
use Rattle.world_sim.proofs.MailLemmas.{named_more, small_cut}
use Rattle.world_sim.proofs.Performs.{no_request}
use Rattle.world_sim.proofs.SceneActs.{unmapped}
use Rattle.world_sim.proofs.SceneAnswers.{answer_closes, answer_forgotten, answer_kept}
use Rattle.world_sim.proofs.SceneLemmas.{request_at, same_node}
use Rattle.world_sim.proofs.scene.Scene.deliver.Goals as goal

pub returns-in_default : goal.returns-in_default
returns-in_default c = (no_request (scene_view c.args.self.now) c.args.number (unmapped request_value c.args.self.now.requests.items c.args.number _ (ap length c.as_slice.ensures.value) c.in_default.ensures), refl)

pub returns-in_err-came : goal.returns-in_err-came
returns-in_err-came c =
    let p = err_from_is_err_and c.from_residual.result c.from_residual.ensures.1 in
    let q = c.index-request.result.now in
    let (there, pooled) = request_at c.args.self.now.requests.items c.args.number c.in-Some.place _ q c.in-Some.ensures.0 c.in-Some.ensures.1 (ap length c.as_slice.ensures.value) c.index-request.ensures in
    rw (p.1, p.2) ((request_value q, pooled), same_node c.args.self.now (coordinator_of c.answer.new.node) c.answer.new.replies.items (ap coordinator_of c.in_err-came.ensures.err) c.answer.ensures.replies)

pub returns-in_default-came : goal.returns-in_default-came
returns-in_default-came c =
    let q = c.index-request.result.now in
    let (there, pooled) = request_at c.args.self.now.requests.items c.args.number c.in-Some.place _ q c.in-Some.ensures.0 c.in-Some.ensures.1 (ap length c.as_slice.ensures.value) c.index-request.ensures in
    let come = rw c.in_default-came.is at c.in_ok-came.ensures.came in (
      answer_forgotten c.one_request_a_body.ensures c.args.self.now c.requires c.args.number q pooled (coordinator_of c.answer.new.node) c.new-out.result.items c.answer.new.out.items come,
      same_node c.args.self.now (coordinator_of c.answer.new.node) c.answer.new.replies.items come.step c.answer.ensures.replies,
    )

pub returns-in-Closes : goal.returns-in-Closes
returns-in-Closes c =
    let q = c.index-request.result.now in
    let (there, pooled) = request_at c.args.self.now.requests.items c.args.number c.in-Some.place _ q c.in-Some.ensures.0 c.in-Some.ensures.1 (ap length c.as_slice.ensures.value) c.index-request.ensures in
    let come = rw (c.in-Some-came.is, c.in-Closes.is) at c.in_ok-came.ensures.came in
    rw c.answer.ensures.replies
    (answer_closes c.one_request_a_body.ensures c.args.self.now c.requires c.args.number q pooled (coordinator_of c.answer.new.node) c.new-out.result.items c.answer.new.out.items c.cut_all.new.commits.items c.cut_all.ensures come)

pub returns-in-Replied : goal.returns-in-Replied
returns-in-Replied c =
    let q = c.index-request.result.now in
    let (there, pooled) = request_at c.args.self.now.requests.items c.args.number c.in-Some.place _ q c.in-Some.ensures.0 c.in-Some.ensures.1 (ap length c.as_slice.ensures.value) c.index-request.ensures in
    let come = rw (c.in-Some-came.is, c.in-Replied.is) at c.in_ok-came.ensures.came in
    let r : answer.Reply = record { request = c.in-Some.place; frame = c.of.result } in
    answer_kept c.one_request_a_body.ensures c.args.self.now c.requires c.args.number q pooled (coordinator_of c.answer.new.node) c.new-out.result.items c.answer.new.out.items c.cut_all.new.commits.items c.cut_all.ensures
    come c.new-out.ensures.items r c.push_reserved.new.self.items c.len.result there c.of.ensures
    (c.push_reserved.ensures.items ∙ ap (λ (xs : List answer.Reply). xs ++ r ∷ []) c.answer.ensures.replies) (c.len.ensures ∙ c.push_reserved.new.self.ok.0)

pub invariant_of-self-in-Break-1 : goal.invariant_of-self-in-Break-1
invariant_of-self-in-Break-1 c = record { named = rw c.answer.ensures.replies c.args.self.now.named; small = c.args.self.now.small }

pub invariant_of-self-in_default-came : goal.invariant_of-self-in_default-came
invariant_of-self-in_default-came c = record { named = rw c.answer.ensures.replies c.args.self.now.named; small = c.args.self.now.small }

pub invariant_of-self-in-Closes : goal.invariant_of-self-in-Closes
invariant_of-self-in-Closes c =
    record {
      named = rw c.answer.ensures.replies c.args.self.now.named;
      small = small_cut (coordinator_of c.answer.new.node) c.args.self.now.commits.items c.cut_all.new.commits.items c.args.self.now.small c.cut_all.ensures;
    }

pub invariant_of-self-in-Replied : goal.invariant_of-self-in-Replied
invariant_of-self-in-Replied c =
    let below = subst (λ k. c.in-Some.place < k) (ap length c.as_slice.ensures.value) c.in-Some.ensures.1 in
    let one : answer.Reply = record { request = c.in-Some.place; frame = c.of.result } in
    record {
      named = rw (c.push_reserved.ensures.items, c.answer.ensures.replies) (named_more c.args.self.now.requests.items c.args.self.now.replies.items one c.args.self.now.named below);
      small = small_cut (coordinator_of c.answer.new.node) c.args.self.now.commits.items c.cut_all.new.commits.items c.args.self.now.small c.cut_all.ensures;
    }
