use Rattle.std.proofs.Common.{◌≡◌}
use Rattle.std.specs.Slice.Iter.{chunks_rest, chunks_size}
use Rattle.topic_meta.specs.Images.{entries_of}
use Rattle.scenario_text.proofs.TopicWords.{HasTopics, texts}
use Rattle.scenario_text.proofs.topics.topics_of.Given as goal

abbrev pub invariant-loop-topic : goal.invariant-loop-topic
invariant-loop-topic l =
    (chunks_size l.topic-iterator ≡ 3) × HasTopics (texts l.words) (texts (chunks_rest l.topic-iterator)) (entries_of l.list.items)
