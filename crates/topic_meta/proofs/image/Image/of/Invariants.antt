use Rattle.std.specs.Vec.Iter.{into_iter_items}
use Rattle.topic_meta.proofs.Reading.{IsReading}
use Rattle.topic_meta.proofs.image.Image.of.Given as goal

abbrev pub invariant-loop-entry : goal.invariant-loop-entry
invariant-loop-entry l = IsReading l.fn.list.items l.yielded (into_iter_items l.entry-iterator) l.draft
