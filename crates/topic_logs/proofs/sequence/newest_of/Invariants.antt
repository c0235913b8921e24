use Rattle.std.proofs.Common.{◌≡◌, take}
use Rattle.topic_logs.specs.Sequence.{last_of, is_of}
use Rattle.topic_logs.proofs.sequence.newest_of.Given as goal

abbrev pub invariant-loop-s : goal.invariant-loop-s
invariant-loop-s l = l.newest ≡ last_of (is_of l.producer) (take l.s-index l.sent)
