use Rattle.std.proofs.Common.{◌≡◌, ◌∙◌, ◌<◌, ◌+◌, ◌-◌, length, ap, sym, subst, arith}
use Rattle.world_sim.specs.declared.mail.Reply as answer
use Rattle.world_sim.specs.Mail.{reply_value}
use Rattle.world_sim.proofs.SceneLemmas.{indexed, some_same}
use Rattle.world_sim.proofs.Takers.{request_there, sender_is, sender_placed}
use Rattle.world_sim.proofs.scene.Scene.taker_of.Goals as goal

pub index-requires : goal.index-requires
index-requires c =
    let s = c.args.self.now in
    let r = c.index-reply.result.now in
    let there = indexed s.replies.items c.args.place r (subst (λ k. c.args.place < k) s.replies.ok.0 c.requires.place) c.index-reply.ensures in
    subst (λ k. r.request < k) (sym s.requests.ok.0) (request_there s c.args.place r there)

pub overflow_sub-result : goal.overflow_sub-result
overflow_sub-result c =
    let s = c.args.self.now in
    let r = c.index-reply.result.now in
    let q = c.index.result.now in
    let there = indexed s.replies.items c.args.place r (subst (λ k. c.args.place < k) s.replies.ok.0 c.requires.place) c.index-reply.ensures in
    let at = indexed s.requests.items r.request q (request_there s c.args.place r there) c.index.ensures in
    let placed = sender_placed s c.args.place r there q at c.requires.keeps in
    omega (arith, placed.0)

pub returns : goal.returns
returns c = λ other is.
    let s = c.args.self.now in
    let r = c.index-reply.result.now in
    let q = c.index.result.now in
    let there = indexed s.replies.items c.args.place r (subst (λ k. c.args.place < k) s.replies.ok.0 c.requires.place) c.index-reply.ensures in
    let at = indexed s.requests.items r.request q (request_there s c.args.place r there) c.index.ensures in
    let placed = sender_placed s c.args.place r there q at c.requires.keeps in
    let one : 0 < q.stamp.connection = placed.0 in
    let few : q.stamp.connection < length s.clients.items + 1 = placed.1 in
    let back : q.stamp.connection ≡ (q.stamp.connection - 1) + 1 = omega (arith, one) in
    let below : q.stamp.connection - 1 < length s.clients.items = omega (arith, one, few) in
    (ap (λ (x : answer.Reply). (reply_value s.requests.items x).request.sender) (some_same other r (sym is ∙ there)) ∙ sender_is s c.args.place r there q at ∙ back, below)
