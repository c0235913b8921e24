use Rattle.std.proofs.Common.{◌≡◌, suc, ◌-◌, Some, length, refl, sym, ap, ◌∙◌, arith, inl, inr}
use Rattle.std.specs.List.{slice_get}
use Rattle.std.specs.declared.cmp.Ordering.TheVariants.{Less}
use Rattle.std.proofs.lemmas.Bool.{cases_lt}
use Rattle.std.proofs.lemmas.Option.{same_Some, slice_get_read}
use Rattle.group_types.specs.Partition.{partition_cmp}
use Rattle.group_types.proofs.Orders.{Less-is_lt, partition_cmp_total}
use Rattle.group_types.proofs.RisingLists.{sorted-RisesTo}
use Rattle.group_types.proofs.part_set.rises.Goals as goal

pub loop-at-init : goal.loop-at-init
loop-at-init c = λ k x y below here next. absurd (omega arith)

pub loop-at-preserved : goal.loop-at-preserved
loop-at-preserved c =
    let parts = c.args.parts.now in
    let n = c.loop-at.at in
    let low = c.loop-at-test.true in
    let from = c.loop-at.auto.at in
    let one = c.index-parts-at.result in
    let other = c.index-parts-at-in-loop-at.result in
    let first : slice_get parts (n - 1) ≡ Some one = slice_get_read parts (length parts) (n - 1) one refl (omega (arith, low, from)) c.index-parts-at.is in
    let second : slice_get parts n ≡ Some other = slice_get_read parts (length parts) n other refl low c.index-parts-at-in-loop-at.is in
    let less : partition_cmp one other ≡ Less = Less-is_lt (partition_cmp one other) (sym c.comes_before.ensures ∙ c.if-not-comes_before.false) in
    λ k x y below here next.
    elim (cases_lt (suc k) n) [
      | inl before ↦ c.loop-at.invariant k x y before here next
      | inr last ↦
          let at : suc k ≡ n = omega (arith, below, last) in
          let place : k ≡ n - 1 = omega (arith, at) in
          let left : x ≡ one = same_Some x one (sym here ∙ ap (slice_get parts) place ∙ first) in
          let right : y ≡ other = same_Some y other (sym next ∙ ap (slice_get parts) at ∙ second) in
          (λ i. partition_cmp (left i) (right i)) ∙ less
    ]

pub returns : goal.returns
returns c = sorted-RisesTo partition_cmp_total c.args.parts.now c.loop-at.at c.loop-at-test.false c.loop-at.invariant
