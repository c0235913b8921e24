use Rattle.std.proofs.Common.{Ok, Err, sym, subst, ◌∷◌}
use Rattle.std.specs.List.Sorted.{IsPermutation}
use Rattle.range_assign.specs.Shares.{AreInIdOrder, IsPlace, share_in, shares_in}
use Rattle.range_assign.proofs.Changes.{AreInIdOrder-insert, no_place, shares_in-insert}
use Rattle.range_assign.proofs.spread.put_share.Goals as goal

pub unreachable-requires : goal.unreachable-requires
unreachable-requires c =
    no_place (share_in c.args.share) (shares_in c.args.shares.now.items) c.in_default.field-0 c.requires.apart
    (subst (λ id. IsPlace (shares_in c.args.shares.now.items) id (Ok c.in_default.field-0)) c.as_str.ensures.value
    (subst (λ xs. IsPlace (shares_in xs) c.as_str.result.now (Ok c.in_default.field-0)) c.deref.ensures.value c.in_default.ensures))

pub returns-clause-order : goal.returns-clause-order
returns-clause-order c =
    subst (λ xs. AreInIdOrder (shares_in xs)) (sym c.in-Ok.ensures.items)
    (AreInIdOrder-insert c.args.shares.now.items c.in-Err.place c.args.share c.requires.order
    (subst (λ id. IsPlace (shares_in c.args.shares.now.items) id (Err c.in-Err.place)) c.as_str.ensures.value
    (subst (λ xs. IsPlace (shares_in xs) c.as_str.result.now (Err c.in-Err.place)) c.deref.ensures.value c.in-Err.ensures))
    c.requires.apart)

pub returns-clause-put : goal.returns-clause-put
returns-clause-put c =
    subst (λ xs. IsPermutation (share_in c.args.share ∷ shares_in c.args.shares.now.items) (shares_in xs)) (sym c.in-Ok.ensures.items)
    (shares_in-insert c.args.shares.now.items c.in-Err.place c.args.share)
