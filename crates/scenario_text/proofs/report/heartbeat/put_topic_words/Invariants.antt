use Rattle.std.proofs.Common.{◌≡◌, ◌++◌, map, take}
use Rattle.kip_msgs.specs.Topics.{topic_partitions_values}
use Rattle.scenario_text.specs.Reports.{topic_word, spaced}
use Rattle.scenario_text.proofs.report.heartbeat.put_topic_words.Given as goal

abbrev pub invariant-loop-topic : goal.invariant-loop-topic
invariant-loop-topic l =
    l.page ≡ l.initial.page ++ spaced (map topic_word (topic_partitions_values (take l.topic-index l.topics)))
