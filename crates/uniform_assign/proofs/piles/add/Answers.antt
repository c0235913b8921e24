use Rattle.std.proofs.Common.{◌≡◌, ◌++◌, ◌∷◌, [], ℕ, List, Some, get_or, length, refl, sym, ap, subst, ◌∙◌, inl, inr}
use Rattle.std.specs.List.{slice_get}
use Rattle.std.proofs.lemmas.Option.{slice_get_read, slice_get_within}
use Rattle.uniform_assign.specs.declared.pile.Pile.{Pile}
use Rattle.uniform_assign.specs.Piles.{IsInHand, IsInClass, IsPileOf}
use Rattle.uniform_assign.proofs.Piled.{InHand-kept, InHand-left, InHand-pushed, InHand-written, InClass-pushed, InClass-written}
use Rattle.uniform_assign.proofs.piles.add.Goals as goal

-- the pile that was found is the one that was written
found : (shown hand : List Pile) (at class : ℕ) (old : Pile) → shown ≡ hand → IsPileOf shown class at → old ≡ get_or hand at old → (slice_get hand at ≡ Some old) × (old.class ≡ class)
found shown hand at class old same (pile, is, of_class) read =
    let there : slice_get hand at ≡ Some pile = ap (λ xs. slice_get xs at) (sym same) ∙ is in
    let here = slice_get_read hand (length hand) at old refl (slice_get_within hand at pile there) read in
    (here, let equal = sym here ∙ there in cc)

pub returns-in_ok-push-in-Some-clause-added : goal.returns-in_ok-push-in-Some-clause-added
returns-in_ok-push-in-Some-clause-added c =
    let hand = c.args.hand.now.items in
    let old = c.index_mut.result.now in
    let is = found c.deref.result.now hand c.in-Some.at c.args.class old c.deref.ensures.value c.in-Some.ensures c.index_mut.ensures.value in
    InHand-written hand c.in-Some.at old c.push.new.self is.0 c.push.ensures.class c.args.place c.in_ok-push-in-Some.ensures.added

pub returns-in_ok-push-in-Some-clause-kept : goal.returns-in_ok-push-in-Some-clause-kept
returns-in_ok-push-in-Some-clause-kept c = λ k there.
    let hand = c.args.hand.now.items in
    let old = c.index_mut.result.now in
    let is = found c.deref.result.now hand c.in-Some.at c.args.class old c.deref.ensures.value c.in-Some.ensures c.index_mut.ensures.value in
    InHand-kept hand c.in-Some.at old c.push.new.self is.0 c.push.ensures.class c.args.place c.in_ok-push-in-Some.ensures.added k there

pub returns-in_ok-push-in-Some-clause-classes : goal.returns-in_ok-push-in-Some-clause-classes
returns-in_ok-push-in-Some-clause-classes c = λ t k there.
    let hand = c.args.hand.now.items in
    let old = c.index_mut.result.now in
    let is = found c.deref.result.now hand c.in-Some.at c.args.class old c.deref.ensures.value c.in-Some.ensures c.index_mut.ensures.value in
    elim (InClass-written hand c.in-Some.at old c.push.new.self is.0 c.push.ensures.class c.args.place c.in_ok-push-in-Some.ensures.added t k there) [
      | inl before ↦ inl before
      | inr (of_class, this) ↦ inr (of_class ∙ is.1, this)
    ]

pub returns-in_ok-push-in-None-clause-added : goal.returns-in_ok-push-in-None-clause-added
returns-in_ok-push-in-None-clause-added c =
    let hand = c.args.hand.now.items in
    let new = c.of.result in
    let pushed : c.push-in-None.new.self.items ≡ hand ++ new ∷ [] = c.in_ok-push-in-None.ensures.items in
    subst (λ (xs : List Pile). IsInHand xs c.args.place) (sym pushed) (InHand-pushed hand new c.args.place c.of.ensures.alone)

pub returns-in_ok-push-in-None-clause-kept : goal.returns-in_ok-push-in-None-clause-kept
returns-in_ok-push-in-None-clause-kept c = λ k there.
    let hand = c.args.hand.now.items in
    let new = c.of.result in
    let pushed : c.push-in-None.new.self.items ≡ hand ++ new ∷ [] = c.in_ok-push-in-None.ensures.items in
    subst (λ (xs : List Pile). IsInHand xs k) (sym pushed) (InHand-left hand new c.args.place c.of.ensures.alone k there)

pub returns-in_ok-push-in-None-clause-classes : goal.returns-in_ok-push-in-None-clause-classes
returns-in_ok-push-in-None-clause-classes c = λ t k there.
    let hand = c.args.hand.now.items in
    let new = c.of.result in
    let pushed : c.push-in-None.new.self.items ≡ hand ++ new ∷ [] = c.in_ok-push-in-None.ensures.items in
    elim (InClass-pushed hand new c.args.place c.of.ensures.alone t k (subst (λ (xs : List Pile). IsInClass xs t k) pushed there)) [
      | inl before ↦ inl before
      | inr (of_class, this) ↦ inr (of_class ∙ c.of.ensures.class, this)
    ]
