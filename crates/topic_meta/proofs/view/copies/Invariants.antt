use Rattle.std.proofs.Common.{◌≡◌, take}
use Rattle.topic_meta.specs.Views.{all_named}
use Rattle.topic_meta.proofs.view.copies.Given as goal

abbrev pub invariant-loop-topic : goal.invariant-loop-topic
invariant-loop-topic l = all_named l.copies.items ≡ all_named (take l.topic-index l.topics)
