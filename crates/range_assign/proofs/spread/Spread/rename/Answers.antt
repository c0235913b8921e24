use Rattle.std.proofs.Common.{◌≡◌, ap, sym, subst, ◌∙◌, Some}
use Rattle.std.specs.FinMap as finite
use Rattle.group_types.specs.Owners.{renamed}
use Rattle.range_assign.specs.Shares.{HasNoShare, shares_in, spread_of}
use Rattle.range_assign.proofs.Changes.{AreShares-renamed, HasNoShare-taken, renamed-none, renamed-put, spread_of-taken}
use Rattle.range_assign.proofs.IdOrder.{AreShares-of_order}
use Rattle.range_assign.proofs.Spreads.{AreShares-permutation}
use Rattle.range_assign.proofs.spread.Spread.rename.Goals as goal

pub put_share-requires-clause-apart : goal.put_share-requires-clause-apart
put_share-requires-clause-apart c =
    let before = shares_in c.take_share.new.shares.items in
    let free : HasNoShare before c.args.new = subst (HasNoShare before) c.as_str.ensures.value c.take_share.ensures.gone in
    AreShares-renamed c.args.old.now c.args.new c.in-Some.set (shares_in c.take_share-2.new.shares.items)
    (AreShares-permutation before _ c.in-Some.ensures.taken (AreShares-of_order before c.take_share.ensures.order))
    (HasNoShare-taken before (shares_in c.take_share-2.new.shares.items) (c.args.old.now, c.in-Some.set) c.args.new c.in-Some.ensures.taken free)

pub returns-in-Some : goal.returns-in-Some
returns-in-Some c =
    let first = shares_in c.self.inside.shares.items in
    let before = shares_in c.take_share.new.shares.items in
    let new : c.as_str.result.now ≡ c.args.new = c.as_str.ensures.value in
    let same : spread_of before ≡ spread_of first =
    spread_of-taken first before c.as_str.result.now c.take_share.result (AreShares-of_order first c.self.invariant) c.take_share.ensures.gone c.take_share.ensures.taken
    (λ p is. c.requires p (ap (λ spread. finite.get spread p) (sym c.self.view_is) ∙ is ∙ ap Some new)) in
    renamed-put before (shares_in c.take_share-2.new.shares.items) (shares_in c.put_share.new.shares.items) c.args.old.now c.args.new c.in-Some.set
    (AreShares-of_order before c.take_share.ensures.order) c.in-Some.ensures.taken (subst (HasNoShare before) new c.take_share.ensures.gone) c.put_share.ensures.put
    ∙ ap (λ spread. renamed spread c.args.old.now c.args.new) (same ∙ c.self.view_is)

pub returns-in_default : goal.returns-in_default
returns-in_default c =
    let first = shares_in c.self.inside.shares.items in
    let before = shares_in c.take_share.new.shares.items in
    let after = shares_in c.take_share-2.new.shares.items in
    let new : c.as_str.result.now ≡ c.args.new = c.as_str.ensures.value in
    let same : spread_of before ≡ spread_of first =
    spread_of-taken first before c.as_str.result.now c.take_share.result (AreShares-of_order first c.self.invariant) c.take_share.ensures.gone c.take_share.ensures.taken
    (λ p is. c.requires p (ap (λ spread. finite.get spread p) (sym c.self.view_is) ∙ is ∙ ap Some new)) in
    sym (renamed-none after c.args.old.now c.args.new c.in_default.ensures.gone)
    ∙ ap (λ spread. renamed spread c.args.old.now c.args.new) (ap spread_of c.in_default.ensures.taken ∙ same ∙ c.self.view_is)
