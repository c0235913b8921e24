use Rattle.std.proofs.Common.{arith, subst, sym}
use Rattle.std.specs.Prelude.{IsSorted}
use Rattle.group_types.specs.Assignors.{IdsAreApart, member_cmp}
use Rattle.topic_meta.proofs.Places.{topic_at-count}
use Rattle.uniform_assign.specs.Boards.{ArePlaces}
use Rattle.uniform_assign.proofs.board.Board.of.Goals as goal

pub places_of-requires : goal.places_of-requires
places_of-requires c = λ k d within.
    let count = (topic_at-count c.args.view.now c.topics.result.now c.topics.ensures.all c.topics.ensures.sound k d within).1 in
    omega arith

pub returns-clause-board : goal.returns-clause-board
returns-clause-board c =
    record {
      sound = c.topics.ensures.sound;
      apart = subst IdsAreApart (sym c.members.ensures.all) c.members.ensures.apart;
      sorted = subst (IsSorted member_cmp) (sym c.members.ensures.all) c.members.ensures.sorted;
      places = subst (λ ts. ArePlaces ts c.in_ok-places.places.items) c.topics.ensures.all c.in_ok-places.ensures;
    }
