use Rattle.std.proofs.Common.{rules, ◌≡◌, ◌+◌, ◌-◌, ◌≤◌, ◌<◌, ◌++◌, length, take, drop, pos, List, ℕ, ap, sym, ◌∙◌, arith, length-append, refl, vec_len, vec_capacity}
use Rattle.flex_wire.specs.Spelling.{int32, signed}
use Rattle.kip_msgs.specs.Spelling.{reply_body}
use Rattle.kip_msgs.specs.Views as views
use Rattle.coord_node.proofs.LengthLemmas.{length-int32}
use Rattle.coord_node.proofs.ReplyLemmas.{patched, sized}
use Rattle.coord_node.proofs.frame.put.Goals as goal

-- what was written behind the size's bytes, and how long all is
behind_size : (old items all bytes : List ℕ) → items ≡ old ++ int32 (pos 0) → all ≡ items ++ bytes
    → (all ≡ (old ++ int32 (pos 0)) ++ bytes) × (length all ≡ length old + 4 + length bytes)
behind_size old items all bytes zeros body =
    let whole : all ≡ (old ++ int32 (pos 0)) ++ bytes = body ∙ ap (λ (xs : List ℕ). xs ++ bytes) zeros in (
      whole,
      omega (arith, ap length whole, length-append (old ++ int32 (pos 0)) bytes, length-append old (int32 (pos 0)), length-int32 (pos 0)),
    )

pub unreachable-requires : goal.unreachable-requires
unreachable-requires c =
    omega (arith, c.requires.room, c.in-Err.ensures.room, length-int32 (pos 0), c.args.out.now.ok.0)

pub unreachable-requires-in-Err-put_reply : goal.unreachable-requires-in-Err-put_reply
unreachable-requires-in-Err-put_reply c =
    let bytes : List ℕ = reply_body (views.reply_value c.args.message.now) in
    let items = c.in-Ok.ensures.items in
    let short : vec_capacity c.put_i32.new.out < vec_len c.put_i32.new.out + length bytes = c.in-Err-put_reply.ensures.appends.room in
    omega (arith, c.requires.room, short, c.in-Ok.ensures.capacity, ap length items, length-append c.args.out.now.items (int32 (pos 0)), length-int32 (pos 0), c.put_i32.new.out.ok.0, c.args.out.now.ok.0)

pub overflow_sub-size : goal.overflow_sub-size
overflow_sub-size c =
    let whole = behind_size _ _ _ (reply_body (views.reply_value c.args.message.now)) c.in-Ok.ensures.items c.in-Ok-put_reply.ensures.appends.items in
    omega (arith, whole.1, c.put_reply.new.out.ok.0, c.args.out.now.ok.0)

pub overflow_cast-size : goal.overflow_cast-size
overflow_cast-size c =
    let whole = behind_size _ _ _ (reply_body (views.reply_value c.args.message.now)) c.in-Ok.ensures.items c.in-Ok-put_reply.ensures.appends.items in
    omega (arith, whole.1, c.requires.short, c.put_reply.new.out.ok.0, c.args.out.now.ok.0)

pub slice_bounds-copy_from_slice-end : goal.slice_bounds-copy_from_slice-end
slice_bounds-copy_from_slice-end c =
    let whole = behind_size _ _ _ (reply_body (views.reply_value c.args.message.now)) c.in-Ok.ensures.items c.in-Ok-put_reply.ensures.appends.items in
    let within : c.len-start.result + 4 ≤ length c.deref_mut.result.now =
    omega (arith, whole.1, c.put_reply.new.out.ok.0, c.args.out.now.ok.0, c.deref_mut.ensures.len) in
    search rules

pub returns : goal.returns
unfolding signed
returns c =
    let bytes : List ℕ = reply_body (views.reply_value c.args.message.now) in
    let whole = behind_size _ _ _ bytes c.in-Ok.ensures.items c.in-Ok-put_reply.ensures.appends.items in
    let size : c.len.result - (c.len-start.result + 4) ≡ length bytes = omega (arith, whole.1, c.put_reply.new.out.ok.0, c.args.out.now.ok.0) in
    let first : c.copy_from_slice.new.self ≡ int32 (pos (c.len.result - (c.len-start.result + 4))) = search rules in
    let written : c.copy_from_slice.new.self ≡ int32 (pos (length bytes)) = first ∙ ap (λ (k : ℕ). int32 (pos k)) size in
    let items : c.deref_mut.result.now ≡ (c.args.out.now.items ++ int32 (pos 0)) ++ bytes = c.deref_mut.ensures.value ∙ whole.0 in (
      int32 (pos (length bytes)) ++ bytes,
      record {
        body = bytes;
        spells = record { fits = c.in-Ok-put_reply.ensures.fits; bytes = refl };
        framed = record { size = omega (arith, c.requires.short); bytes = refl };
      },
      ap (λ (xs : List ℕ). take c.put_reply.new.out.len (patched c.deref_mut.result.now c.copy_from_slice.new.self c.len-start.result ++ drop (length (patched c.deref_mut.result.now c.copy_from_slice.new.self c.len-start.result)) xs)) (sym c.deref_mut.ensures.value)
          ∙ sized c.args.out.now.items (int32 (pos 0)) bytes c.copy_from_slice.new.self c.deref_mut.result.now c.len-start.result c.put_reply.new.out.len items
          (omega (arith, c.len-start.ensures, c.args.out.now.ok.0)) (length-int32 (pos 0)) (omega (arith, ap length written, length-int32 (pos (length bytes))))
          (omega (arith, c.deref_mut.ensures.len))
          ∙ ap (λ (xs : List ℕ). c.args.out.now.items ++ (xs ++ bytes)) written,
    )
