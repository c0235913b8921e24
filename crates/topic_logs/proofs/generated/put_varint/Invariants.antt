use Rattle.topic_logs.proofs.generated.put_varint.Given as goal

abbrev pub decreases-loop-left : goal.decreases-loop-left
decreases-loop-left l = l.left
