use Rattle.std.proofs.Common.{◌≡◌, Ok, Err, sym, ap, ◌∙◌, subst, ◌<◌, length, arith, ◌∷◌}
use Rattle.std.specs.List.Sorted.{IsPermutation}
use Rattle.std.proofs.Math.ListN.{length-map}
use Rattle.range_assign.specs.Shares.{AreInIdOrder, IsPlace, share_in, shares_in}
use Rattle.range_assign.proofs.Changes.{AreInIdOrder-remove, HasNoShare-tail, shares_in-remove}
use Rattle.range_assign.proofs.IdOrder.{AreShares-of_order, no_share, share_at}
use Rattle.range_assign.proofs.Spreads.{AreShares-permutation}
use Rattle.range_assign.proofs.spread.take_share.Goals as goal

pub returns-in_default-clause-gone : goal.returns-in_default-clause-gone
returns-in_default-clause-gone c =
    no_share (shares_in c.args.shares.now.items) c.args.id.now c.in_default.field-0
    (subst (λ xs. IsPlace (shares_in xs) c.args.id.now (Err c.in_default.field-0)) c.deref.ensures.value c.in_default.ensures)

pub returns-clause-order : goal.returns-clause-order
returns-clause-order c =
    let xs = c.args.shares.now.items in
    let place = subst (λ xs. IsPlace (shares_in xs) c.args.id.now (Ok c.in-Ok.place)) c.deref.ensures.value c.in-Ok.ensures in
    let within : c.in-Ok.place < length xs = let long = length-map xs share_in in let low = place.0 in omega arith in
    subst (λ ys. AreInIdOrder (shares_in ys)) (sym c.remove-set.ensures.items) (AreInIdOrder-remove xs c.in-Ok.place c.remove-set.result within c.remove-set.ensures.value c.requires)

pub returns-clause-taken : goal.returns-clause-taken
returns-clause-taken c =
    let xs = c.args.shares.now.items in
    let x = c.remove-set.result in
    let place = subst (λ xs. IsPlace (shares_in xs) c.args.id.now (Ok c.in-Ok.place)) c.deref.ensures.value c.in-Ok.ensures in
    let within : c.in-Ok.place < length xs = let long = length-map xs share_in in let low = place.0 in omega arith in
    let same : x.id ≡ c.args.id.now = ap (λ s. s.0) (sym (share_at xs c.in-Ok.place x within c.remove-set.ensures.value)) ∙ place.1 (share_in x) in
    subst (λ id. IsPermutation (shares_in xs) ((id, x.set) ∷ shares_in c.remove-set.new.self.items)) same
    (subst (λ ys. IsPermutation (shares_in xs) (share_in x ∷ shares_in ys)) (sym c.remove-set.ensures.items) (shares_in-remove xs c.in-Ok.place x within c.remove-set.ensures.value))

pub returns-clause-gone : goal.returns-clause-gone
returns-clause-gone c =
    HasNoShare-tail (c.args.id.now, c.remove-set.result.set) (shares_in c.remove-set.new.self.items)
    (AreShares-permutation (shares_in c.args.shares.now.items) _ (returns-clause-taken c) (AreShares-of_order (shares_in c.args.shares.now.items) c.requires))
