use Rattle.std.proofs.Common.{◌≡◌, ◌-◌, length, take}
use Rattle.std.specs.Io.Slices.{io_slices_bytes}
use Rattle.link_futures.specs.Buffers.{bytes_in}
use Rattle.link_futures.proofs.outbox.write_front.Given as goal

abbrev pub invariant-loop-place : goal.invariant-loop-place
invariant-loop-place g l =
    (length l.parts ≡ 16) × (l.left ≡ l.most - length (bytes_in (take l.place l.buffers.items)))
    × (io_slices_bytes (take l.place l.parts) ≡ take l.most (bytes_in (take l.place l.buffers.items)))
