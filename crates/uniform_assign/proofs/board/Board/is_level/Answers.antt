use Rattle.std.proofs.Common.{◌≡◌, ◌≤◌, ℕ, List, false, ap, get_or, length, Option, None, Some, is_some, sym, subst, ◌∙◌, arith, inl, inr}
use Rattle.std.proofs.lemmas.Bool.{cases_lt}
use Rattle.uniform_assign.specs.declared.level.Move.{Move}
use Rattle.uniform_assign.specs.Moves.{CanGive, IsMoveOf}
use Rattle.uniform_assign.proofs.Moves.{poor-stays}
use Rattle.uniform_assign.proofs.Shown.{can_give-owns}
use Rattle.uniform_assign.proofs.board.Board.is_level.Goals as goal

pub loop-at-init : goal.loop-at-init
loop-at-init c = λ from k low can. absurd (omega arith)

none : (o : Option Move) → is_some o ≡ false → o ≡ None
none None is = λ i. None
none (Some m) is = cc

pub loop-at-preserved : goal.loop-at-preserved
loop-at-preserved c = λ from k low can.
    let board = c.args.self.now in
    let draft = c.args.draft.now in
    let nowhere = subst (IsMoveOf board draft c.loop-at.at) (none c.move_of.result (sym c.is_some.ensures ∙ c.if-is_some.false)) c.move_of.ensures in
    elim (cases_lt k c.loop-at.at) [
      | inl below ↦ c.loop-at.invariant from k below can
      | inr above ↦ nowhere from (subst (CanGive board draft from) (let last : k ≡ c.loop-at.at = omega arith in last) can)
    ]

pub returns : goal.returns
returns c = λ from k low can.
    let ok = c.args.self.now.places.ok in
    let last = c.loop-at-test.false in
    let shown = c.len-at-end.ensures in
    c.loop-at.invariant from k (omega arith) can

pub returns-then-are_within : goal.returns-then-are_within
returns-then-are_within c = λ from k low can.
    let board = c.args.self.now in
    let draft = c.args.draft.now in
    let limit = c.givers_limit.result in
    let within = c.requires.draft.counts.within k from (can_give-owns board draft c.requires.board.bare c.requires.draft from k can) in
    let shown = ap length c.deref.ensures.value in
    let few : get_or draft.counts.items from 0 ≤ limit = subst (λ (xs : List ℕ). get_or xs from 0 ≤ limit) c.deref.ensures.value (c.if-are_within.ensures from 0 (omega (arith, within, shown))) in
    poor-stays board draft c.requires.board c.requires.draft limit from (c.givers_limit.ensures board draft.counts.items c.requires.sets) few k can
