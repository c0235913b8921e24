use Rattle.std.proofs.Common.{◌≡◌, ◌-◌, Bool, true, false, Some, length, slice_get, ap, sym, subst, ◌∙◌, refl, true≢false}
use Rattle.std.specs.Bool.{OnTrue}
use Rattle.std.specs.FinMap as finite
use Rattle.std.specs.Ordering.{is_lt}
use Rattle.std.specs.declared.cmp.Ordering.{Ordering}
use Rattle.std.specs.declared.cmp.Ordering.TheVariants.{Less, Equal, Greater}
use Rattle.group_types.specs.Owners.{Spread}
use Rattle.range_assign.proofs.IdOrder.{none_at_all, none_behind}
use Rattle.range_assign.proofs.spread.Spread.none_from.Goals as goal

less_is : (o : Ordering) → is_lt o ≡ true → o ≡ Less
less_is Less so = refl
less_is Equal so = absurd (true≢false (sym so))
less_is Greater so = absurd (true≢false (sym so))

on_true : (b : Bool) (P : Type 0) → (b ≡ true → P) → OnTrue b P
on_true true P so = so refl
on_true false P so = tt

pub returns-in-Some : goal.returns-in-Some
returns-in-Some c =
    on_true c.is_lt.result _
    (λ so m p after.
    subst (λ (s : Spread). finite.get s p ≡ Some m → ⊥) c.self.view_is
    (none_behind c.self.inside.shares.items c.self.invariant.rise c.in-Some.share.now (ap (λ xs. slice_get xs (length xs - 1)) (sym c.deref.ensures.value) ∙ sym c.in-Some.ensures.value) c.args.id.now
    (sym c.compare.ensures ∙ less_is c.compare.result (sym c.is_lt.ensures ∙ so)) m p after))

pub returns-in-None : goal.returns-in-None
returns-in-None c = λ m p _.
    subst (λ (s : Spread). finite.get s p ≡ Some m → ⊥) c.self.view_is
    (none_at_all c.self.inside.shares.items (ap (λ xs. slice_get xs (length xs - 1)) (sym c.deref.ensures.value) ∙ sym c.in-None.ensures.value) m p)
