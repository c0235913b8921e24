use Rattle.std.proofs.Common.{◌≡◌, ◌++◌, map, drop}
use Rattle.kip_msgs.specs.Views.{commit_reply_topic_value}
use Rattle.coord_node.proofs.AbsentLemmas.{topic_answers}
use Rattle.coord_node.proofs.absent.reply_of_absent.Given as goal

abbrev pub invariant-loop-topic : goal.invariant-loop-topic
invariant-loop-topic l =
    map commit_reply_topic_value l.topics.items ++ topic_answers (drop l.topic-index l.topic-items) ≡ topic_answers l.topic-items
