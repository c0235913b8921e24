use Rattle.std.proofs.Common.{◌≡◌, ◌+◌, ◌-◌, ◌<◌, [], ◌∷◌, ◌++◌, length, ap, ◌∙◌, arith, length-append}
use Rattle.std.proofs.lemmas.List.Elements.{All-nil, All-cons, All-append}
use Rattle.std.proofs.lemmas.List.Sums.{sum_by_push}
use Rattle.coord_node.specs.Coordinator.{bytes_of}
use Rattle.link_futures.specs.declared.outbox.Reply.{Reply}
use Rattle.link_futures.specs.Buffers.{unsent_of, bytes_in}
use Rattle.link_futures.proofs.QueueLemmas.{unsent_length, bytes_appended}
use Rattle.link_futures.proofs.outbox.Outbox.answer.Goals as goal

pub overflow_add-self : goal.overflow_add-self
overflow_add-self g c =
    let o = c.self.inside in
    omega (arith, c.requires, unsent_length o.replies.items o.buffers.items o.tail.items c.self.invariant.0 c.args.self.now c.self.view_is, c.self.invariant.1, c.len-2.ensures, c.answer.new.out.ok.1, c.answer.new.out.small)

pub invariant_of-self-then-unsent-gt0 : goal.invariant_of-self-then-unsent-gt0
invariant_of-self-then-unsent-gt0 g c =
    let o = c.self.inside in
    let given = c.in_ok-answered.ensures.gives in
    let reply : Reply = record { frame = c.args.stamp.frame; unsent = c.len-2.result - c.len-before.result } in
    let pushed = c.push_back_reserved.ensures.items in
    let kept = c.in_ok-reserve.ensures.items in
    let buffers = c.in_ok-reserve-2.ensures.items in
    let longer : length c.answer.new.out.items ≡ length o.tail.items + length (bytes_of given.0) = ap length given.3 ∙ length-append c.reserve-3.new.self.items (bytes_of given.0) ∙ ap (λ bytes. length bytes + length (bytes_of given.0)) c.reserve-3.ensures.items in
    let sum : unsent_of (o.replies.items ++ reply ∷ []) ≡ unsent_of o.replies.items + reply.unsent = sum_by_push (λ (r : Reply). r.unsent) o.replies.items reply in
    rw (pushed, kept, buffers) (
      omega (arith, sum, c.self.invariant.0, longer, length-append (bytes_in o.buffers.items) o.tail.items, length-append (bytes_in o.buffers.items) c.answer.new.out.items, c.len-2.ensures, c.len-before.ensures, ap length c.reserve-3.ensures.items, c.reserve-3.new.self.ok.0, c.answer.new.out.ok.0),
      omega (arith, sum, c.self.invariant.1),
      All-append (λ (r : Reply). 0 < r.unsent) o.replies.items (reply ∷ []) c.self.invariant.2 (All-cons (λ (r : Reply). 0 < r.unsent) reply [] (omega arith) (All-nil (λ (r : Reply). 0 < r.unsent))),
      λ some. omega (arith, c.in_ok-reserve-2.ensures.ok),
    )

pub returns-then-unsent-gt0-clause-answers : goal.returns-then-unsent-gt0-clause-answers
returns-then-unsent-gt0-clause-answers g c =
    let o = c.self.inside in
    let given = c.in_ok-answered.ensures.gives in
    let fits = (invariant_of-self-then-unsent-gt0 g c).0 in (
      given.0,
      given.1,
      given.2,
      rw c.in_ok-reserve-2.ensures.items (bytes_appended o.replies.items o.buffers.items o.tail.items c.self.invariant.0 c.args.self.now c.self.view_is c.push_back_reserved.new.self.items (bytes_of given.0) c.answer.new.out.items (given.3 ∙ ap (λ bytes. bytes ++ bytes_of given.0) c.reserve-3.ensures.items) (rw c.in_ok-reserve-2.ensures.items at fits)),
    )
