use Rattle.std.proofs.Common.{◌≡◌, ◌∷◌, ℕ, sym, ◌∙◌, arith, inl, inr}
use Rattle.std.specs.BinaryHeap.{heap_items}
use Rattle.std.specs.List.Sorted.{IsPermutation}
use Rattle.std.specs.declared.cmp.Reverse.{Reverse}
use Rattle.uniform_assign.proofs.Heaps.{In, In-popped, least-popped, owner_is_not, popped-In}
use Rattle.uniform_assign.proofs.pile.Pile.drop_first.Goals as goal

-- the first place is among the others, of which it is the first
among : (c : goal.After-self-else-eq-1) → In c.args.first (heap_items c.args.self.now.places)
among c = elim c.requires.0 [
  | inl same ↦ absurd (owner_is_not c.args.self.now.one c.args.first c.if-eq.ensures same)
  | inr there ↦ there
]

out : (c : goal.After-self-else-eq-1) → (x : Reverse ℕ) × IsPermutation (heap_items c.args.self.now.places) (x ∷ heap_items c.pop.new.self) × (x.0 ≡ c.args.first)
out c =
    let (r, (i, low, value), same) = among c in
    let ok = c.args.self.now.places.data.ok in
    least-popped c.pop.result (heap_items c.args.self.now.places) (heap_items c.pop.new.self) c.args.first c.args.self.now.ordered
    (c.pop.ensures.variant.1 (omega arith)) c.pop.ensures.permutation c.pop.ensures.below_top (among c) (λ k there. c.requires.1 k (inr there))

pub returns-else-eq-clause-fewer : goal.returns-else-eq-clause-fewer
returns-else-eq-clause-fewer c = λ k is.
    let (x, moved, same) = out c in
    elim is [
      | inl one ↦ inl one
      | inr there ↦ inr (In-popped x (heap_items c.args.self.now.places) (heap_items c.pop.new.self) k moved there)
    ]

pub returns-else-eq-clause-kept : goal.returns-else-eq-clause-kept
returns-else-eq-clause-kept c = λ k is.
    let (x, moved, same) = out c in
    elim is [
      | inl one ↦ inr (inl one)
      | inr there ↦ elim (popped-In x (heap_items c.args.self.now.places) (heap_items c.pop.new.self) k moved there) [
        | inl here ↦ inl (sym here ∙ same)
        | inr left ↦ inr (inr left)
      ]
    ]
