use Rattle.std.proofs.Common.{◌≡◌, ◌+◌, ◌<◌, ◌∷◌, [], ◌++◌, suc, length, length-set, slice_set, take, ap, ◌∙◌, arith, append-nil}
use Rattle.std.proofs.Math.Seq.{take-suc-set}
use Rattle.std.proofs.lemmas.Grind.{flat_map-append}
use Rattle.std.specs.Io.Slices.{io_slice_bytes, io_slices_bytes}
use Rattle.link_futures.specs.Buffers.{bytes_in}
use Rattle.link_futures.proofs.QueueLemmas.{front_of_all, front_with}
use Rattle.link_futures.proofs.outbox.write_front.Goals as goal

pub returns-clause-bound : goal.returns-clause-bound
returns-clause-bound g c =
    let buffers = c.args.buffers.now.items in
    let all : c.loop-place.place ≡ c.min-count.result = omega arith in
    let same : io_slices_bytes (take c.min-count.result c.loop-place.parts) ≡ take c.args.most (bytes_in (take c.min-count.result buffers)) = rw (← all) c.loop-place.invariant.2 in
    (front_of_all _ buffers c.min-count.result c.args.most _ same c.poll_write_parts.ensures.bound).1

pub returns-clause-bytes : goal.returns-clause-bytes
returns-clause-bytes g c =
    let buffers = c.args.buffers.now.items in
    let all : c.loop-place.place ≡ c.min-count.result = omega arith in
    let same : io_slices_bytes (take c.min-count.result c.loop-place.parts) ≡ take c.args.most (bytes_in (take c.min-count.result buffers)) = rw (← all) c.loop-place.invariant.2 in
    rw ((front_of_all _ buffers c.min-count.result c.args.most _ same c.poll_write_parts.ensures.bound).0) c.poll_write_parts.ensures.bytes

pub loop-place-preserved : goal.loop-place-preserved
loop-place-preserved g c =
    let buffers = c.args.buffers.now.items in
    let parts = c.loop-place.parts in
    let place = c.loop-place.place in
    let part = c.new.result in
    let kept = c.loop-place.invariant in
    let inside : place < length buffers = omega (arith, c.min-count.ensures, c.len.ensures, c.args.buffers.now.ok.0) in
    let len = rw c.as_slice-bytes.ensures at c.min-len.ensures in
    let both = front_with buffers place c.args.most c.loop-place.left c.index.result.now c.min-len.result inside c.index.ensures kept.1 len in
    let next : place + 1 ≡ suc place = omega arith in
    let one : take (place + 1) (slice_set parts place part) ≡ take place parts ++ part ∷ [] = ap (λ k. take k (slice_set parts place part)) next ∙ take-suc-set parts place part (omega (arith, kept.0)) in
    let bytes : io_slices_bytes (take (place + 1) (slice_set parts place part)) ≡ io_slices_bytes (take place parts) ++ io_slice_bytes part = ap io_slices_bytes one ∙ flat_map-append io_slice_bytes (take place parts) (part ∷ []) ∙ ap (λ xs. io_slices_bytes (take place parts) ++ xs) (append-nil (io_slice_bytes part)) in
    let is = rw c.as_slice-bytes.ensures at c.new.ensures in (
      length-set parts place part ∙ kept.0,
      both.0,
      bytes ∙ ap (λ xs. xs ++ io_slice_bytes part) kept.2 ∙ ap (λ xs. take c.args.most (bytes_in (take place buffers)) ++ xs) is ∙ both.1,
    )
