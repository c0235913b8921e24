use Rattle.std.proofs.Common.{◌≡◌, ◌∙◌, take, drop, ap, sym, arith}
use Rattle.link_futures.specs.Buffers.{bytes_of_all, bytes_in}
use Rattle.link_futures.specs.Parts.{count_of}
use Rattle.link_futures.proofs.QueueLemmas.{bytes_dropped, bytes_written}
use Rattle.link_futures.proofs.outbox.Outbox.write.Goals as goal

pub returns-clause-bytes : goal.returns-clause-bytes
returns-clause-bytes g c =
    let o = c.self.inside in
    let waiting = c.end_tail.new.self in
    let count = count_of c.write_front-part.result in
    let there = c.write_front-part.ensures.bound in
    let dropped : bytes_in c.drop_bytes-last.new.buffers.items ≡ drop count (bytes_in o.buffers.items) = c.drop_bytes-last.ensures.bytes ∙ ap (λ n. drop n (bytes_in o.buffers.items)) c.count-written.ensures in
    let left = bytes_dropped o.replies.items o.buffers.items o.tail.items c.self.invariant.0 waiting c.self.view_is c.drop_replies.new.replies.items c.drop_bytes-last.new.buffers.items count there dropped (omega (arith, c.drop_replies.ensures.unsent, c.count-written.ensures)) in (
      take count (bytes_in o.buffers.items),
      c.write_front-part.ensures.bytes,
      ap bytes_of_all (sym c.end_tail.ensures)
          ∙ bytes_written o.replies.items o.buffers.items o.tail.items c.self.invariant.0 waiting c.self.view_is (bytes_of_all c.give_room_back.new.self) count there (ap bytes_of_all c.give_room_back.ensures ∙ ap bytes_of_all c.take_back.ensures ∙ left.1),
    )
