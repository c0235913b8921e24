use Rattle.std.proofs.Common.{◌<◌, length, refl, arith}
use Rattle.std.proofs.lemmas.List.Elements.{All-drop}
use Rattle.link_futures.specs.declared.outbox.Reply.{Reply}
use Rattle.link_futures.proofs.QueueLemmas.{front_and_rest}
use Rattle.link_futures.proofs.outbox.drop_replies.Goals as goal

pub loop-reply-preserved : goal.loop-reply-preserved
loop-reply-preserved c =
    let queue = c.loop-reply.replies.items in
    let kept = c.loop-reply.invariant in
    let some : 0 < length queue = omega (arith, c.in-Some.ensures.variant.0 refl, c.loop-reply.replies.ok.0) in
    let split = front_and_rest queue c.in-Some.reply.now some c.in-Some.ensures.lookup in
    rw c.pop_front.ensures.rest (omega (arith, kept.0, split), omega (arith, kept.0, kept.1, split), All-drop (λ (r : Reply). 0 < r.unsent) 1 queue kept.2)
