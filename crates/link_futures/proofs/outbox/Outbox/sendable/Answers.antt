use Rattle.std.proofs.Common.{◌<◌, length, ap, arith}
use Rattle.std.proofs.lemmas.List.Sums.{sum_by_more, sum_by_more_le}
use Rattle.link_futures.specs.declared.outbox.Reply.{Reply}
use Rattle.link_futures.proofs.QueueLemmas.{unsent_length}
use Rattle.link_futures.proofs.outbox.Outbox.sendable.Goals as goal

pub overflow_sub-rest : goal.overflow_sub-rest
overflow_sub-rest g c =
    let replies = c.self.inside.replies in
    let place = c.loop-place.place in
    let reply = c.index-in-loop-place.result.now in
    let inside : place < length replies.items = omega (arith, c.len-place-end.ensures, replies.ok.0) in
    let within = sum_by_more_le (λ (r : Reply). r.unsent) replies.items place reply inside in
    omega (arith, within, ap (λ (r : Reply). r.unsent) c.index-in-loop-place.ensures, c.loop-place.invariant, c.self.invariant.1)

pub loop-place-preserved : goal.loop-place-preserved
loop-place-preserved g c =
    let replies = c.self.inside.replies in
    let place = c.loop-place.place in
    let reply = c.index-in-loop-place.result.now in
    let inside : place < length replies.items = omega (arith, c.len-place-end.ensures, replies.ok.0) in
    let within = sum_by_more_le (λ (r : Reply). r.unsent) replies.items place reply inside in
    let more = sum_by_more (λ (r : Reply). r.unsent) replies.items place reply inside in
    omega (arith, within, more, ap (λ (r : Reply). r.unsent) c.index-in-loop-place.ensures, c.loop-place.invariant, c.self.invariant.1)

pub returns-then-not-may_send : goal.returns-then-not-may_send
returns-then-not-may_send g c =
    let o = c.self.inside in
    omega (arith, unsent_length o.replies.items o.buffers.items o.tail.items c.self.invariant.0 c.args.self.now c.self.view_is, c.self.invariant.1, c.loop-place.invariant)

pub returns : goal.returns
returns g c =
    let o = c.self.inside in
    omega (arith, unsent_length o.replies.items o.buffers.items o.tail.items c.self.invariant.0 c.args.self.now c.self.view_is, c.self.invariant.1)
