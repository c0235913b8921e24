use Rattle.std.proofs.Common.{◌≡◌, ◌++◌, map, take}
use Rattle.group_core.proofs.reported.add_entry.Given as goal

abbrev pub invariant-loop-index : goal.invariant-loop-index
invariant-loop-index l =
    l.parts.items ≡ l.fn.parts.items ++ map (λ i. record { topic = l.entry.topic_id; index = i }) (take l.index-index l.index-items)
