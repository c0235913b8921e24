use Rattle.std.proofs.Common.{◌≡◌, ◌++◌, ◌∷◌, [], ℕ, List, Option, None, Some, is_some, true, false, length, sym, ap, subst, ◌∙◌, arith}
use Rattle.std.proofs.lemmas.List.{length_push}
use Rattle.uniform_assign.specs.declared.level.Move.{Move}
use Rattle.uniform_assign.specs.Moves.{IsFirstOf, IsNext}
use Rattle.uniform_assign.specs.Orders.{IsFirstAbove, IsGreatestAt}
use Rattle.uniform_assign.proofs.Ordered.{order-room}
use Rattle.uniform_assign.proofs.Searched.{IsFirst-searched, IsNext-searched, IsSearched, IsSearched-aside, IsSearched-none}
use Rattle.uniform_assign.proofs.board.Board.move_in_order.Goals as goal

pub loop-from-init : goal.loop-from-init
loop-from-init c = (c.requires.piles, IsSearched-none c.args.self.now c.args.draft.now c.args.aside.now.items c.args.order.now c.requires.none c.requires.order, λ k j m takers is_takers is_m. omega arith)

-- the first member is told
first_told : (counts : List ℕ) (limit from : ℕ) (o : Option ℕ) → IsFirstAbove counts limit o → o ≡ Some from → IsGreatestAt counts limit from
first_told counts limit from o is same = subst (IsFirstAbove counts limit) same is

pub move_from-requires-clause-member : goal.move_from-requires-clause-member
move_from-requires-clause-member c =
    let (are, searched, is_limit) = c.loop-from.invariant in
    let first = first_told searched.shown c.loop-from.limit c.in-Some.from c.first_above.result (c.first_above.ensures searched.shown searched.is_order) c.in-Some.is in
    let within = first.within in
    let shown = searched.are_shown.as_many in
    omega arith

pub set-requires : goal.set-requires
set-requires c =
    let (are, searched, is_limit) = c.loop-from.invariant in
    let first = first_told searched.shown c.loop-from.limit c.in-Some.from c.first_above.result (c.first_above.ensures searched.shown searched.is_order) c.in-Some.is in
    order-room searched.shown c.loop-from.order c.in-Some.from searched.is_order first.within

none : (o : Option Move) → is_some o ≡ false → o ≡ None
none None is = λ i. None
none (Some m) is = cc

pub loop-from-preserved : goal.loop-from-preserved
loop-from-preserved c =
    let board = c.args.self.now in
    let draft = c.args.draft.now in
    let from = c.in-Some.from in
    let all = length board.places.items in
    let (are, searched, is_limit) = c.loop-from.invariant in
    let limit = c.loop-from.limit in
    let first = first_told searched.shown limit from c.first_above.result (c.first_above.ensures searched.shown searched.is_order) c.in-Some.is in
    let within = first.within in
    let shown = searched.are_shown.as_many in
    let many = are.as_many in
    let stays = subst (IsFirstOf board draft from) (none c.in_ok-found.found (sym c.is_some.ensures ∙ c.if-is_some.false)) c.in_ok-found.ensures.first in
    let pushed : c.push.new.self.items ≡ c.loop-from.aside.items ++ from ∷ [] = c.in_ok-push.ensures.items in (
      c.in_ok-found.ensures.piles,
      subst (λ (xs : List ℕ). IsSearched board draft xs c.set.new.self) (sym pushed)
          (IsSearched-aside board draft c.loop-from.aside.items c.loop-from.order c.set.new.self limit from searched first (λ k can. stays k tt can) c.set.ensures),
      c.raised_limit-limit.ensures board draft.counts.items c.requires.sets is_limit,
    )

pub loop-from-smaller : goal.loop-from-smaller
loop-from-smaller c =
    let board = c.args.self.now in
    let draft = c.args.draft.now in
    let from = c.in-Some.from in
    let (are, searched, is_limit) = c.loop-from.invariant in
    let limit = c.loop-from.limit in
    let first = first_told searched.shown limit from c.first_above.result (c.first_above.ensures searched.shown searched.is_order) c.in-Some.is in
    let stays = subst (IsFirstOf board draft from) (none c.in_ok-found.found (sym c.is_some.ensures ∙ c.if-is_some.false)) c.in_ok-found.ensures.first in
    let next = IsSearched-aside board draft c.loop-from.aside.items c.loop-from.order c.set.new.self limit from searched first (λ k can. stays k tt can) c.set.ensures in
    let few = next.fewer in
    let long = length_push c.loop-from.aside.items from in
    let pushed : c.push.new.self.items ≡ c.loop-from.aside.items ++ from ∷ [] = c.in_ok-push.ensures.items in
    let same = ap length pushed in
    omega arith

pub returns-then-is_some : goal.returns-then-is_some
returns-then-is_some c =
    let board = c.args.self.now in
    let draft = c.args.draft.now in
    let from = c.in-Some.from in
    let all = length board.places.items in
    let (are, searched, is_limit) = c.loop-from.invariant in
    let limit = c.loop-from.limit in
    let first = first_told searched.shown limit from c.first_above.result (c.first_above.ensures searched.shown searched.is_order) c.in-Some.is in
    let within = first.within in
    let shown = searched.are_shown.as_many in
    let many = are.as_many in
    record {
      order = (searched.shown, searched.are_shown, searched.is_order);
      piles = c.in_ok-found.ensures.piles;
      next = moves c.in_ok-found.found (sym c.is_some.ensures ∙ c.if-is_some.true) c.in_ok-found.ensures.first;
    }
  where
    moves : (o : Option Move) → is_some o ≡ true → IsFirstOf c.args.self.now c.args.draft.now c.in-Some.from o → IsNext c.args.self.now c.args.draft.now (length c.args.self.now.places.items) o
    moves None is found = cc
    moves (Some m) is found =
        let (are, searched, is_limit) = c.loop-from.invariant in
        let limit = c.loop-from.limit in
        let first = first_told searched.shown limit c.in-Some.from c.first_above.result (c.first_above.ensures searched.shown searched.is_order) c.in-Some.is in
        IsFirst-searched c.args.self.now c.args.draft.now c.requires.board c.requires.draft c.loop-from.aside.items c.loop-from.order limit searched c.in-Some.from m first found

pub returns : goal.returns
returns c =
    let board = c.args.self.now in
    let draft = c.args.draft.now in
    let (are, searched, is_limit) = c.loop-from.invariant in
    let limit = c.loop-from.limit in
    let nobody = subst (IsFirstAbove searched.shown limit) c.in_default.is (c.first_above.ensures searched.shown searched.is_order) in
    record {
      order = (searched.shown, searched.are_shown, searched.is_order);
      piles = are;
      next = IsNext-searched board draft c.requires.board c.requires.draft c.loop-from.aside.items c.loop-from.order limit searched is_limit nobody;
    }
