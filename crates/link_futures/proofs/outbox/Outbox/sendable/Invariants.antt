use Rattle.std.proofs.Common.{◌≡◌, ◌+◌, take}
use Rattle.link_futures.specs.Buffers.{unsent_of}
use Rattle.link_futures.proofs.outbox.Outbox.sendable.Given as goal

abbrev pub invariant-loop-place : goal.invariant-loop-place
invariant-loop-place g l = l.rest + unsent_of (take l.place l.self-inside.replies.items) ≡ l.self-inside.unsent
