use Rattle.std.proofs.Common.{arith}
use Rattle.link_futures.proofs.QueueLemmas.{unsent_length}
use Rattle.link_futures.proofs.outbox.Outbox.unsent.Goals as goal

pub returns : goal.returns
returns c =
    let o = c.self.inside in
    omega (arith, unsent_length o.replies.items o.buffers.items o.tail.items c.self.invariant.0 c.args.self.now c.self.view_is, c.self.invariant.1)
