use Rattle.std.proofs.Common.{ap, length, below_more, arith}
use Rattle.std.proofs.lemmas.List.{get_or_read}
use Rattle.uniform_assign.proofs.Settled.{owner_read}
use Rattle.uniform_assign.proofs.draft.Draft.is_single.Goals as goal

pub loop-owner-preserved : goal.loop-owner-preserved
loop-owner-preserved c =
    let draft = c.args.self.now in
    let m = c.in-Some.member in
    let owner = owner_read c.deref-owner-items.result.now draft.owners.items c.loop-owner.owner-index m c.deref-owner-items.ensures.value c.loop-owner-test.true c.in-Some.is in
    let low = c.requires.within c.loop-owner.owner-index m owner in
    let few = c.if-index-gt1.false in
    let count = get_or_read draft.counts.items m c.index.result.now low c.index.ensures 0 in
    below_more _ _ c.loop-owner.invariant (m, owner, omega arith)

pub returns : goal.returns
returns c = λ k low.
    let long = ap length c.deref-owner-items.ensures.value in
    let last = c.loop-owner-test.false in
    c.loop-owner.invariant k (omega arith)
