use Rattle.std.proofs.Common.{All, take}
use Rattle.topic_meta.specs.Images.{entry_of}
use Rattle.replica_entries.specs.Spelling.{FitsTopic}
use Rattle.replica_entries.proofs.check.are_spelled.Given as goal

abbrev pub invariant-loop-topic : goal.invariant-loop-topic
invariant-loop-topic l = All (λ topic. FitsTopic (entry_of topic)) (take l.topic-index l.topics)
