use Rattle.std.proofs.Common.{◌≡◌, ◌+◌, ◌<◌, ◌≤◌, All, deque_len}
use Rattle.link_futures.specs.Buffers.{unsent_of}
use Rattle.link_futures.proofs.outbox.drop_replies.Given as goal

abbrev pub invariant-loop-reply : goal.invariant-loop-reply
invariant-loop-reply l =
    (l.left ≤ unsent_of l.replies.items)
    × (unsent_of l.replies.items + l.count ≡ unsent_of l.initial.replies.items + l.left)
    × All (λ r. 0 < r.unsent) l.replies.items

abbrev pub decreases-loop-reply : goal.decreases-loop-reply
decreases-loop-reply l = deque_len l.replies
