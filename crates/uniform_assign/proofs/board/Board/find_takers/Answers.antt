use Rattle.std.proofs.Common.{ℕ, List, subst}
use Rattle.std.specs.FinMap as finite
use Rattle.std.specs.Global.{Vec}
use Rattle.group_types.specs.Text.{Text}
use Rattle.group_types.specs.Topics.{Topic}
use Rattle.range_assign.proofs.Marked.{NamesRise-view}
use Rattle.uniform_assign.specs.Boards.{AreClasses, AreTakers, members_on}
use Rattle.uniform_assign.proofs.Classed.{AllRise-classes, AreClassTakers-of}
use Rattle.uniform_assign.proofs.board.Board.find_takers.Goals as goal

pub takers_of-requires : goal.takers_of-requires
takers_of-requires c = NamesRise-view c.args.self.now.view.now c.topics.result.now c.topics.ensures.all

pub returns-clause-board : goal.returns-clause-board
returns-clause-board c =
    let board = c.args.self.now in
    let lists = c.in_ok-lists.lists.items in
    let classes = c.in_ok-found.found.classes.items in
    let takers = c.in_ok-found.found.takers.items in
    let found = subst (λ (xs : List (Vec ℕ)). AreClasses xs classes takers) c.deref.ensures.value c.in_ok-found.ensures in
    let are = subst (λ (topics : List (Text × Topic)). AreTakers topics (members_on board) lists) c.topics.ensures.all c.in_ok-lists.ensures.takers in
    record {
      bare = record { sound = c.requires.sound; apart = c.requires.apart; sorted = c.requires.sorted; places = c.requires.places };
      takers = AreClassTakers-of (finite.entries board.view.now) (members_on board) lists classes takers are found;
      rise = AllRise-classes lists classes takers c.in_ok-lists.ensures.rise found;
    }
