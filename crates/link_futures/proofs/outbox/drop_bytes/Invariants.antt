use Rattle.std.proofs.Common.{◌≡◌, ◌≤◌, length, drop, deque_len}
use Rattle.std.specs.VecDeque.{deque_capacity}
use Rattle.link_futures.specs.Buffers.{bytes_in}
use Rattle.link_futures.proofs.outbox.drop_bytes.Given as goal

abbrev pub invariant-loop-buffer : goal.invariant-loop-buffer
invariant-loop-buffer l =
    (l.left ≤ length (bytes_in l.buffers.items))
    × (drop l.left (bytes_in l.buffers.items) ≡ drop l.count (bytes_in l.initial.buffers.items))
    × (deque_len l.buffers ≤ deque_len l.initial.buffers) × (deque_capacity l.buffers ≡ deque_capacity l.initial.buffers)

abbrev pub decreases-loop-buffer : goal.decreases-loop-buffer
decreases-loop-buffer l = deque_len l.buffers
