use Rattle.std.proofs.Common.{◌∙◌, ◌<◌, List, ℕ, length, ap, sym, subst, refl}
use Rattle.std.proofs.lemmas.Result.{err_from_is_err_and}
use Rattle.world_sim.specs.Scene.{scene_view}
use Rattle.std.proofs.Common.{Ok}
use Rattle.member_core.specs.Client.{Client}
use Rattle.world_sim.specs.Mail.{reply_value, replies_of}
use Rattle.world_sim.specs.Places.{TookAt}
use Rattle.world_sim.proofs.Performs.{no_reply}
use Rattle.world_sim.proofs.SceneActs.{takes_any, unmapped}
use Rattle.world_sim.proofs.SceneLemmas.{at_number, indexed}
use Rattle.world_sim.proofs.Takers.{pooled_reply}
use Rattle.world_sim.proofs.scene.Scene.take.Goals as goal

pub returns-in_default : goal.returns-in_default
returns-in_default c = (no_reply (scene_view c.args.self.now) c.args.number (unmapped (reply_value c.args.self.now.requests.items) c.args.self.now.replies.items c.args.number _ (ap length c.as_slice.ensures.value) c.in_default.ensures), refl)

pub take_at-requires : goal.take_at-requires
take_at-requires c =
    let s = c.args.self.now in
    let r = c.index.result.now in
    let there = indexed s.replies.items c.in-Some.place r (subst (λ k. c.in-Some.place < k) (ap length c.as_slice.ensures.value) c.in-Some.ensures.1) c.index.ensures in
    subst (λ k. c.taker_of-client.result < k) (sym s.clients.ok.0) (c.taker_of-client.ensures r there).1

pub returns-in_err-state : goal.returns-in_err-state
returns-in_err-state c =
    let s = c.args.self.now in
    let r = c.index.result.now in
    let there = indexed s.replies.items c.in-Some.place r (subst (λ k. c.in-Some.place < k) (ap length c.as_slice.ensures.value) c.in-Some.ensures.1) c.index.ensures in
    let pooled = at_number (replies_of s.requests.items s.replies.items) c.args.number c.in-Some.place c.in-Some.ensures.0 ∙ pooled_reply s c.in-Some.place r there in
    let p = err_from_is_err_and c.from_residual.result c.from_residual.ensures.1 in
    rw (p.1, p.2) ((reply_value s.requests.items r, pooled), ap (λ (xs : List Client). record (scene_view c.args.self.now) { clients = xs }) c.in_err-state.ensures)

pub returns : goal.returns
returns c =
    let s = c.args.self.now in
    let r = c.index.result.now in
    let there = indexed s.replies.items c.in-Some.place r (subst (λ k. c.in-Some.place < k) (ap length c.as_slice.ensures.value) c.in-Some.ensures.1) c.index.ensures in
    let pooled = at_number (replies_of s.requests.items s.replies.items) c.args.number c.in-Some.place c.in-Some.ensures.0 ∙ pooled_reply s c.in-Some.place r there in
    takes_any s c.args.number c.taker_of-client.result (reply_value s.requests.items r) pooled (c.taker_of-client.ensures r there).0 c.in_ok-state.state c.taken_shown.result c.take_at.new.clients.items c.taken_shown.ensures
    (subst (λ (b : List ℕ). TookAt s.clients.items c.taker_of-client.result b (Ok c.in_ok-state.state) c.take_at.new.clients.items) c.body-body.ensures c.in_ok-state.ensures)
