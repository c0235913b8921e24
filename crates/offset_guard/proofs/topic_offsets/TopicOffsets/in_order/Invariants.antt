use Rattle.std.proofs.Common.{◌≡◌, ◌++◌, map}
use Rattle.offset_guard.specs.Listing.{indexed}
use Rattle.offset_guard.proofs.topic_offsets.TopicOffsets.in_order.Given as goal

-- with those that are left they are all
abbrev pub invariant-loop-index : goal.invariant-loop-index
invariant-loop-index l = map indexed l.list.items ++ l.index-iterator ≡ l.initial.index-iterator
