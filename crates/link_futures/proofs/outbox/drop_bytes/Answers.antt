use Rattle.std.proofs.Common.{◌<◌, length, refl, ◌∙◌, arith}
use Rattle.link_futures.proofs.QueueLemmas.{front_dropped}
use Rattle.link_futures.proofs.outbox.drop_bytes.Goals as goal

pub loop-buffer-preserved : goal.loop-buffer-preserved
loop-buffer-preserved c =
    let queue = c.loop-buffer.buffers.items in
    let kept = c.loop-buffer.invariant in
    let len = c.len-len.ensures.value in
    let some : 0 < length queue = omega (arith, c.in-Some.ensures.variant.0 refl, c.loop-buffer.buffers.ok.0) in
    let rest = front_dropped queue c.in-Some.buffer.now c.loop-buffer.left some c.in-Some.ensures.lookup (omega (arith, len)) kept.0 in
    rw (c.pop_front-last.ensures.rest, len) (rest.0, rest.1 ∙ kept.1, omega (arith, c.pop_front-last.ensures.len, kept.2), c.pop_front-last.ensures.capacity ∙ kept.3)
