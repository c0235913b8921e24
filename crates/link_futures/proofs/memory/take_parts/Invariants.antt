use Rattle.std.proofs.Common.{◌≡◌, ◌≤◌, ◌++◌, length, take}
use Rattle.std.specs.Io.Slices.{io_slices_bytes}
use Rattle.link_futures.proofs.memory.take_parts.Given as goal

abbrev pub invariant-loop-buf : goal.invariant-loop-buf
invariant-loop-buf l =
    (l.count ≤ l.most) × (l.count ≡ length (io_slices_bytes (take l.buf-index l.bufs)))
    × (l.taken.items ≡ l.initial.taken.items ++ io_slices_bytes (take l.buf-index l.bufs))
