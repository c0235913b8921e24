use Rattle.std.proofs.Common.{rules, ◌≡◌, ◌+◌, ◌≤◌, ◌++◌, length, take, drop, pos, List, ℕ, ap, sym, ◌∙◌, arith, refl, length-append}
use Rattle.std.proofs.lemmas.List.{take_at}
use Rattle.flex_wire.specs.Spelling.{int32, signed}
use Rattle.group_types.specs.Frames.{frame_of}
use Rattle.broker_topics.proofs.FrameLemmas.{length-int32, patched, patched_is}
use Rattle.broker_topics.proofs.frame.put_frame.Goals as goal

pub overflow_cast-size : goal.overflow_cast-size
overflow_cast-size g c = omega (arith, c.in-Ok.ensures.ok.few)

pub slice_bounds-copy_from_slice-end : goal.slice_bounds-copy_from_slice-end
slice_bounds-copy_from_slice-end g c =
    let parts = c.in-Ok.ensures.ok in
    let old : List ℕ = c.args.out.now.items in
    let body : List ℕ = int32 c.args.head.now.correlation_id ++ parts.rest in
    let within : c.len-start.result + 4 ≤ length c.deref_mut.result.now =
    omega (arith, ap length parts.bytes, length-append (old ++ int32 (pos 0)) body, length-append old (int32 (pos 0)), length-int32 (pos 0), c.len-start.ensures, c.put_unsized.new.out.ok.0, c.args.out.now.ok.0, c.deref_mut.ensures.len) in
    search rules

pub returns-in-Ok-clause-ok : goal.returns-in-Ok-clause-ok
unfolding signed
returns-in-Ok-clause-ok g c =
    let parts = c.in-Ok.ensures.ok in
    let old : List ℕ = c.args.out.now.items in
    let body : List ℕ = int32 c.args.head.now.correlation_id ++ parts.rest in
    let first : c.copy_from_slice.new.self ≡ int32 (pos c.in-Ok.size) = search rules in
    let written : c.copy_from_slice.new.self ≡ int32 (pos (length body)) = first ∙ ap (λ (k : ℕ). int32 (pos k)) parts.counted in
    let items : c.deref_mut.result.now ≡ (old ++ int32 (pos 0)) ++ body = c.deref_mut.ensures.value ∙ parts.bytes in
    let four : length c.copy_from_slice.new.self ≡ 4 = ap length written ∙ length-int32 (pos (length body)) in
    record {
      frame = frame_of body;
      is_frame = record { rest = parts.rest; size = omega (arith, parts.counted, parts.few); bytes = refl };
      bytes =
          ap (λ (xs : List ℕ). take c.put_unsized.new.out.len (patched c.deref_mut.result.now c.copy_from_slice.new.self c.len-start.result
          ++ drop (length (patched c.deref_mut.result.now c.copy_from_slice.new.self c.len-start.result)) xs)) (sym c.deref_mut.ensures.value)
          ∙ patched_is old (int32 (pos 0)) body c.copy_from_slice.new.self c.deref_mut.result.now c.len-start.result c.put_unsized.new.out.len items
          (omega (arith, c.len-start.ensures, c.args.out.now.ok.0)) (length-int32 (pos 0)) four (omega (arith, c.deref_mut.ensures.len))
          ∙ ap (λ (xs : List ℕ). old ++ (xs ++ body)) written;
    }

pub returns-in-Err-clause-err : goal.returns-in-Err-clause-err
returns-in-Err-clause-err g c =
    let rest = c.in-Err.ensures.err in
    c.truncate.ensures.items ∙ ap (take c.len-start.result) rest.1
    ∙ take_at c.args.out.now.items rest.0 c.len-start.result (omega (arith, c.len-start.ensures, c.args.out.now.ok.0))
