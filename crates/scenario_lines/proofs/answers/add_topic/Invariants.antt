use Rattle.std.proofs.Common.{◌≡◌, ◌++◌, map, take}
use Rattle.scenario_lines.proofs.answers.add_topic.Given as goal

abbrev pub invariant-loop-index : goal.invariant-loop-index
invariant-loop-index l =
    l.partitions.items
    ≡ l.initial.partitions.items ++ map (λ i. record { topic = l.topic.topic_id; index = i }) (take l.index-index l.topic.partitions)
