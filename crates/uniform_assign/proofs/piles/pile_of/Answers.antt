use Rattle.std.proofs.Common.{◌-◌, length, refl, ap, ◌∙◌, arith}
use Rattle.std.proofs.lemmas.Option.{slice_get_read}
use Rattle.uniform_assign.specs.declared.pile.Pile.{Pile}
use Rattle.uniform_assign.proofs.piles.pile_of.Goals as goal

pub returns-then-hand-at : goal.returns-then-hand-at
returns-then-hand-at c =
    let hand = c.args.hand.now in
    let at = c.loop-at.at - 1 in
    let pile = c.index-hand-at.result in
    let long = c.loop-at.invariant in
    let some = c.loop-at-test.true in
    (pile, slice_get_read hand (length hand) at pile refl (omega arith) c.index-hand-at.is, ap (λ (p : Pile). p.class) c.index-hand-at.is ∙ c.if-hand-at.true)
