use Rattle.std.proofs.Common.{◌≡◌, ◌++◌, map, take}
use Rattle.std.specs.List.{flat_map}
use Rattle.kip_msgs.specs.Views.{commit_reply_topic_value}
use Rattle.scenario_text.specs.Reports.{spaced}
use Rattle.scenario_lines.specs.Shows.{code_words}
use Rattle.scenario_lines.proofs.answers.put_topic_codes.Given as goal

abbrev pub invariant-loop-topic : goal.invariant-loop-topic
invariant-loop-topic l =
    l.page ≡ l.initial.page ++ spaced (flat_map code_words (map commit_reply_topic_value (take l.topic-index l.topics)))
