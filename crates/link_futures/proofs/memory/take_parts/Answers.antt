use Rattle.std.proofs.Common.{◌≡◌, ◌+◌, ◌++◌, [], take, drop, sym, ap, ◌∙◌, arith, append-nil, rules, append_assoc}
use Rattle.std.specs.Io.Slices.{io_slice_bytes, io_slices_bytes}
use Rattle.std.proofs.lemmas.Grind.{common_steps}
use Rattle.link_futures.proofs.FrontLemmas.{parts_taken, flat_map_parts}
use Rattle.link_futures.proofs.memory.take_parts.Goals as goal

pub returns-then-is_err-clause-bound : goal.returns-then-is_err-clause-bound
returns-then-is_err-clause-bound c =
    let i = c.loop-buf.buf-index in
    let split = flat_map_parts io_slice_bytes c.args.bufs.now i in
    let done = io_slices_bytes (take i c.args.bufs.now) in
    let whole : io_slices_bytes c.args.bufs.now ≡ (done ++ []) ++ io_slices_bytes (drop i c.args.bufs.now) = split ∙ ap (λ xs. xs ++ io_slices_bytes (drop i c.args.bufs.now)) (sym (append-nil done)) in
    omega (arith, (parts_taken _ done [] _ c.loop-buf.count 0 whole c.loop-buf.invariant.1 (omega arith)).1)

pub returns-then-is_err-clause-bytes : goal.returns-then-is_err-clause-bytes
returns-then-is_err-clause-bytes c =
    let i = c.loop-buf.buf-index in
    let split = flat_map_parts io_slice_bytes c.args.bufs.now i in
    let done = io_slices_bytes (take i c.args.bufs.now) in
    let whole : io_slices_bytes c.args.bufs.now ≡ (done ++ []) ++ io_slices_bytes (drop i c.args.bufs.now) = split ∙ ap (λ xs. xs ++ io_slices_bytes (drop i c.args.bufs.now)) (sym (append-nil done)) in
    let front = (parts_taken _ done [] _ c.loop-buf.count 0 whole c.loop-buf.invariant.1 (omega arith)).0 in
    let count : c.loop-buf.count + 0 ≡ c.loop-buf.count = omega arith in
    let taken : take c.loop-buf.count (io_slices_bytes c.args.bufs.now) ≡ done = ap (λ n. take n (io_slices_bytes c.args.bufs.now)) (sym count) ∙ front ∙ append-nil done in
    let same : c.extend_from_slice.new.self.items ≡ c.loop-buf.taken.items = search rules in
    same ∙ c.loop-buf.invariant.2 ∙ ap (λ xs. c.args.taken.now.items ++ xs) (sym taken)

pub returns-then-part-bytes-clause-bound : goal.returns-then-part-bytes-clause-bound
returns-then-part-bytes-clause-bound c =
    let i = c.loop-buf.buf-index in
    let done = io_slices_bytes (take i c.args.bufs.now) in
    let bytes = c.as_slice-bytes.result.now in
    let next : io_slices_bytes (take (i + 1) c.args.bufs.now) ≡ done ++ bytes = grind (arith, common_steps) in
    let whole : io_slices_bytes c.args.bufs.now ≡ (done ++ bytes) ++ io_slices_bytes (drop (i + 1) c.args.bufs.now) = flat_map_parts io_slice_bytes c.args.bufs.now (i + 1) ∙ ap (λ xs. xs ++ io_slices_bytes (drop (i + 1) c.args.bufs.now)) next in
    (parts_taken _ done bytes _ c.loop-buf.count c.min-part.result whole c.loop-buf.invariant.1 (omega arith)).1

pub returns-then-part-bytes-clause-bytes : goal.returns-then-part-bytes-clause-bytes
returns-then-part-bytes-clause-bytes c =
    let i = c.loop-buf.buf-index in
    let done = io_slices_bytes (take i c.args.bufs.now) in
    let bytes = c.as_slice-bytes.result.now in
    let next : io_slices_bytes (take (i + 1) c.args.bufs.now) ≡ done ++ bytes = grind (arith, common_steps) in
    let whole : io_slices_bytes c.args.bufs.now ≡ (done ++ bytes) ++ io_slices_bytes (drop (i + 1) c.args.bufs.now) = flat_map_parts io_slice_bytes c.args.bufs.now (i + 1) ∙ ap (λ xs. xs ++ io_slices_bytes (drop (i + 1) c.args.bufs.now)) next in
    let front = (parts_taken _ done bytes _ c.loop-buf.count c.min-part.result whole c.loop-buf.invariant.1 (omega arith)).0 in
    let more : c.extend_from_slice.new.self.items ≡ c.loop-buf.taken.items ++ take c.min-part.result bytes = search rules in
    more ∙ ap (λ xs. xs ++ take c.min-part.result bytes) c.loop-buf.invariant.2 ∙ append_assoc c.args.taken.now.items done (take c.min-part.result bytes) ∙ ap (λ xs. c.args.taken.now.items ++ xs) (sym front)
