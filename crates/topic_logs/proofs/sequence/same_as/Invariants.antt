use Rattle.std.proofs.Common.{◌≡◌, take}
use Rattle.topic_logs.specs.Sequence.{last_of, is_same}
use Rattle.topic_logs.proofs.sequence.same_as.Given as goal

abbrev pub invariant-loop-s : goal.invariant-loop-s
invariant-loop-s l = l.same ≡ last_of (is_same l.sequence) (take l.s-index l.sent)
