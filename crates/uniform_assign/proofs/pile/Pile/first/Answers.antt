use Rattle.std.proofs.Common.{◌≡◌, Some, sym, ap, ◌∙◌, arith, inl, inr}
use Rattle.std.specs.BinaryHeap.{heap_items}
use Rattle.std.proofs.lemmas.Bool.{cases_lt}
use Rattle.std.proofs.lemmas.Option.{same_Some}
use Rattle.uniform_assign.proofs.Heaps.{In-first}
use Rattle.uniform_assign.proofs.pile.Pile.first.Goals as goal

pub returns-in-Some-Some : goal.returns-in-Some-Some
returns-in-Some-Some c =
    let top = c.in-Some-Some.ensures.item.3 in
    let one = c.in-Some-Some.one in
    let least = c.in-Some-Some.least.now in
    let bound = c.in-Some-Some.ensures.greatest c.args.self.now.ordered in
    let min = c.min.ensures in (
      elim (cases_lt one least.0) [
        | inl less ↦ inl (c.in-Some-Some.is-0 ∙ ap Some (let same : one ≡ c.min.result = omega arith in same))
        | inr more ↦ inr (least, (0, top.0, sym (top.1 least)), let same : least.0 ≡ c.min.result = omega arith in same)
      ],
      λ k is. elim is [
        | inl same ↦ let here = same_Some one k (sym c.in-Some-Some.is-0 ∙ same) in omega arith
        | inr there ↦ let low = In-first least (heap_items c.args.self.now.places) k bound there in omega arith
      ],
    )
