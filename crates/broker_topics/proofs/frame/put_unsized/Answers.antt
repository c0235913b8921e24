use Rattle.std.proofs.Common.{◌++◌, arith, List, ℕ}
use Rattle.flex_wire.specs.Spelling.{int32}
use Rattle.broker_topics.proofs.FrameLemmas.{after_size}
use Rattle.broker_topics.proofs.frame.put_unsized.Goals as goal

pub overflow_sub-size-2 : goal.overflow_sub-size-2
overflow_sub-size-2 g c =
    let added = c.in_ok-put_reply.ensures.ok in
    let body : List ℕ = int32 c.args.head.now.correlation_id ++ added.0 in
    let whole = after_size c.args.out.now.items c.put_i32.new.out.items c.put_reply.new.out.items body c.in-Ok.ensures.items added.1 in
    omega (arith, whole.1, c.put_reply.new.out.ok.0, c.args.out.now.ok.0, c.len-start.ensures, c.len.ensures)

pub returns-clause-ok : goal.returns-clause-ok
returns-clause-ok g c =
    let added = c.in_ok-put_reply.ensures.ok in
    let body : List ℕ = int32 c.args.head.now.correlation_id ++ added.0 in
    let whole = after_size c.args.out.now.items c.put_i32.new.out.items c.put_reply.new.out.items body c.in-Ok.ensures.items added.1 in
    record {
      rest = added.0;
      bytes = whole.0;
      counted = omega (arith, whole.1, c.put_reply.new.out.ok.0, c.args.out.now.ok.0, c.len-start.ensures, c.len.ensures);
      few = omega arith;
    }
