use Rattle.std.proofs.Common.{◌≡◌, take}
use Rattle.range_assign.specs.Marks.{marks_in}
use Rattle.range_assign.proofs.marks.mark_by_topics.Given as goal

abbrev pub invariant-loop-topic : goal.invariant-loop-topic
invariant-loop-topic l = l.marks.items ≡ marks_in (take l.topic-index l.topics) l.names
