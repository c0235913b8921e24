use Rattle.std.proofs.Common.{Some, length, sym, ap, subst, ◌∙◌, arith}
use Rattle.std.specs.List.{slice_get}
use Rattle.std.proofs.lemmas.Option.{slice_get_within}
use Rattle.uniform_assign.specs.Moves.{IsFirstAmong}
use Rattle.uniform_assign.specs.Piles.{AreOfClass, IsIn}
use Rattle.uniform_assign.proofs.Firsts.{IsFirstAmong-pile}
use Rattle.uniform_assign.proofs.board.Board.first_in.Goals as goal

pub first_owned-requires : goal.first_owned-requires
first_owned-requires c = λ k is_k.
    let (place, is_place, class) = c.requires.pile k is_k in
    let low = slice_get_within c.args.self.now.places.items k place is_place in
    let many = c.requires.draft.as_many_owners in
    let shown = ap length c.deref.ensures.value in
    omega arith

pub returns-in_err-at-clause-first : goal.returns-in_err-at-clause-first
returns-in_err-at-clause-first c =
    let none = c.in_err-at.ensures.first in
    subst (IsFirstAmong c.args.self.now c.args.draft.now c.args.from (λ k. IsIn k c.first_owned.new.self)) (sym c.from_residual.ensures) (λ k is_k can. none k is_k)

pub move_of-requires-clause-within : goal.move_of-requires-clause-within
move_of-requires-clause-within c =
    let (place, is_place, class) = c.requires.pile c.in_ok-at.at (c.first_owned.ensures.fewer c.in_ok-at.at c.in_ok-at.ensures.first.0) in
    slice_get_within c.args.self.now.places.items c.in_ok-at.at place is_place

pub returns-clause-first : goal.returns-clause-first
returns-clause-first c =
    let first = c.in_ok-at.ensures.first in
    let pile = c.first_owned.new.self in
    let of_class : AreOfClass c.args.self.now pile = λ k is_k.
    let (place, is_place, class) = c.requires.pile k (c.first_owned.ensures.fewer k is_k) in
    (place, is_place, class ∙ ap Some (sym c.first_owned.ensures.class)) in
    let owns = ap (λ xs. slice_get xs c.in_ok-at.at) (sym c.deref.ensures.value) ∙ first.1 in
    IsFirstAmong-pile c.args.self.now c.args.draft.now c.requires.board c.requires.draft pile c.args.from c.in_ok-at.at c.move_of.result of_class first.0 owns first.2 c.move_of.ensures
