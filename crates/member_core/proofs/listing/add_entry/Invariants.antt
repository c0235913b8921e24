use Rattle.std.proofs.Common.{◌≡◌, ◌++◌, map, take}
use Rattle.member_core.proofs.listing.add_entry.Given as goal

abbrev pub invariant-loop-index : goal.invariant-loop-index
invariant-loop-index l =
    l.all.items ≡ l.initial.all.items ++ map (λ i. record { topic = l.entry.topic_id; index = i }) (take l.index-index l.entry.partitions)
