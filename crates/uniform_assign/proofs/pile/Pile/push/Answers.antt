use Rattle.std.proofs.Common.{inl, inr}
use Rattle.std.specs.BinaryHeap.{heap_items}
use Rattle.uniform_assign.proofs.Heaps.{In-pushed, pushed-In}
use Rattle.uniform_assign.proofs.pile.Pile.push.Goals as goal

pub returns-clause-added : goal.returns-clause-added
returns-clause-added c = λ k.
    let moved = c.in_ok-push.ensures.permutation in
    let old = heap_items c.args.self.now.places in
    let new = heap_items c.push.new.self in (
      λ is. elim is [
        | inl same ↦ inl (inl same)
        | inr there ↦ elim (In-pushed _ old new k moved there) [ inl before ↦ inl (inr before) | inr same ↦ inr same ]
      ],
      λ is. elim is [
        | inl before ↦ elim before [ inl same ↦ inl same | inr there ↦ inr (pushed-In _ old new k moved (inl there)) ]
        | inr same ↦ inr (pushed-In _ old new k moved (inr same))
      ],
    )
