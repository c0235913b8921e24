use Rattle.std.proofs.Common.{◌≡◌, ◌++◌, map, drop}
use Rattle.kip_msgs.specs.Views.{commit_reply_topic_value}
use Rattle.offset_guard.proofs.Answers.{topic_answers}
use Rattle.offset_guard.proofs.reply.reply_to.Given as goal

abbrev pub invariant-loop-topic : goal.invariant-loop-topic
invariant-loop-topic l =
    map commit_reply_topic_value l.topics.items ++ topic_answers l.refusal l.image (drop l.topic-index l.topic-items)
    ≡ topic_answers l.refusal l.image l.topic-items
