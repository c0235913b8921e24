use Rattle.std.proofs.Common.{◌≡◌, take}
use Rattle.topic_meta.specs.Images.{entries_of}
use Rattle.coord_c.proofs.embedded.copies.Given as goal

abbrev pub invariant-loop-topic : goal.invariant-loop-topic
invariant-loop-topic l = entries_of l.list.items ≡ entries_of (take l.topic-index l.topics)
