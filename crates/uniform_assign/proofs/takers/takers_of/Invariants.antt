use Rattle.topic_meta.specs.Views.{all_named}
use Rattle.range_assign.specs.Members.{subscribers_in}
use Rattle.uniform_assign.proofs.Taken.{AreTakersTo}
use Rattle.uniform_assign.proofs.takers.takers_of.Given as goal

abbrev pub invariant-loop-at : goal.invariant-loop-at
invariant-loop-at l = AreTakersTo (all_named l.topics) (subscribers_in l.members) l.at l.all.items
