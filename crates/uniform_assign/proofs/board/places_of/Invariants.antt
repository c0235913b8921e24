use Rattle.topic_meta.specs.Views.{all_named}
use Rattle.uniform_assign.proofs.Made.{ArePlacesTo}
use Rattle.uniform_assign.proofs.board.places_of.Given as goal

abbrev pub invariant-loop-at : goal.invariant-loop-at
invariant-loop-at l = ArePlacesTo (all_named l.topics) l.at l.places.items
