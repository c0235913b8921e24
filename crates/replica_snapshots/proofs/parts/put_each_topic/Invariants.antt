use Rattle.std.proofs.Common.{drop}
use Rattle.topic_meta.specs.Views.{all_named}
use Rattle.replica_snapshots.specs.Spelling.{topic_fields, FitsTopic}
use Rattle.replica_snapshots.proofs.Puts.{AreLeft}
use Rattle.replica_snapshots.proofs.parts.put_each_topic.Given as goal

abbrev pub invariant-loop-topic : goal.invariant-loop-topic
invariant-loop-topic l = AreLeft FitsTopic FitsTopic topic_fields l.fn.out.items l.out.items (all_named l.topics) (all_named (drop l.topic-index l.topics))
