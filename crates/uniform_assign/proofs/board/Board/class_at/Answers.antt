use Rattle.std.proofs.Common.{length, refl, sym, ◌∙◌, arith}
use Rattle.std.proofs.lemmas.Option.{same_Some, slice_get_read, slice_get_within}
use Rattle.uniform_assign.proofs.Boards.{at_place}
use Rattle.uniform_assign.proofs.board.Board.class_at.Goals as goal

pub index-requires-2 : goal.index-requires-2
index-requires-2 c =
    let board = c.args.self.now in
    let place = c.index.result.now in
    let here = slice_get_read board.places.items (length board.places.items) c.args.at place refl c.requires.within c.index.ensures in
    let at = at_place board c.requires.board c.args.at place here in
    let low = slice_get_within board.classes.items place.topic at.class at.is_class in
    let ok = board.classes.ok in
    omega arith

pub returns-clause-class : goal.returns-clause-class
returns-clause-class c =
    let board = c.args.self.now in
    let place = c.index.result.now in
    let here = slice_get_read board.places.items (length board.places.items) c.args.at place refl c.requires.within c.index.ensures in
    let at = at_place board c.requires.board c.args.at place here in
    let low = slice_get_within board.classes.items place.topic at.class at.is_class in
    (place, here, slice_get_read board.classes.items (length board.classes.items) place.topic c.index-2.result.now refl low c.index-2.ensures)

pub returns-clause-below : goal.returns-clause-below
returns-clause-below c =
    let board = c.args.self.now in
    let place = c.index.result.now in
    let here = slice_get_read board.places.items (length board.places.items) c.args.at place refl c.requires.within c.index.ensures in
    let at = at_place board c.requires.board c.args.at place here in
    let low = slice_get_within board.classes.items place.topic at.class at.is_class in
    let is = slice_get_read board.classes.items (length board.classes.items) place.topic c.index-2.result.now refl low c.index-2.ensures in
    let same = same_Some at.class c.index-2.result.now (sym at.is_class ∙ is) in
    let within = slice_get_within board.takers.items at.class at.takers at.are_there in
    omega arith
