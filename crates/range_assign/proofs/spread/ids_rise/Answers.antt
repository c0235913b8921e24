use Rattle.std.proofs.Common.{◌≡◌, true, false, suc, ◌-◌, Some, get_or, refl, sym, ap, ◌∙◌, arith, inl, inr, true≢false}
use Rattle.std.specs.List.{slice_get}
use Rattle.std.specs.Ordering.{is_lt}
use Rattle.std.specs.declared.cmp.Ordering.TheVariants.{Less}
use Rattle.std.proofs.lemmas.Bool.{cases_lt}
use Rattle.std.proofs.lemmas.List.{get_or_default}
use Rattle.std.proofs.lemmas.Option.{same_Some, slice_get-get_or}
use Rattle.group_types.specs.Text.{text_cmp}
use Rattle.group_types.proofs.Orders.{Less-is_lt}
use Rattle.range_assign.specs.declared.spread.Share.{Share}
use Rattle.range_assign.proofs.IdOrder.{IdsRise-walked, rises-far}
use Rattle.range_assign.proofs.spread.ids_rise.Goals as goal

pub returns-then-not-is_lt : goal.returns-then-not-is_lt
returns-then-not-is_lt c = (
  λ so. absurd (true≢false (sym so)),
  λ rise.
      let shares = c.args.shares.now in
      let n = c.loop-at.at in
      let low = c.loop-at-test.true in
      let from = c.loop-at.auto.at in
      let one = c.index-shares-at.result in
      let other = c.index-shares-at-in-loop-at.result in
      let less : text_cmp one.id other.id ≡ Less =
      ap (λ (s : Share). text_cmp s.id other.id) c.index-shares-at.is
      ∙ ap (λ (s : Share). text_cmp (get_or shares (n - 1) one).id s.id) (c.index-shares-at-in-loop-at.is ∙ get_or_default shares n other one low)
      ∙ rises-far shares rise (n - 1) n one (omega (arith, from)) low in
      let not_less : is_lt (text_cmp one.id other.id) ≡ false =
      cc (c.index-shares-at.is, c.index-shares-at-in-loop-at.is, c.as_str.ensures.value, c.compare.ensures, c.is_lt.ensures, c.if-not-is_lt.true) in
      absurd (true≢false (sym (ap is_lt less) ∙ not_less)),
)

pub loop-at-preserved : goal.loop-at-preserved
loop-at-preserved c =
    let shares = c.args.shares.now in
    let n = c.loop-at.at in
    let low = c.loop-at-test.true in
    let from = c.loop-at.auto.at in
    let one = c.index-shares-at.result in
    let other = c.index-shares-at-in-loop-at.result in
    let first : slice_get shares (n - 1) ≡ Some one = slice_get-get_or shares (n - 1) one (omega (arith, low, from)) ∙ ap Some (sym c.index-shares-at.is) in
    let second : slice_get shares n ≡ Some other = slice_get-get_or shares n other low ∙ ap Some (sym c.index-shares-at-in-loop-at.is) in
    let test : is_lt (text_cmp one.id other.id) ≡ true =
    cc (c.index-shares-at.is, c.index-shares-at-in-loop-at.is, c.as_str.ensures.value, c.compare.ensures, c.is_lt.ensures, c.if-not-is_lt.false) in
    let less : text_cmp one.id other.id ≡ Less = Less-is_lt (text_cmp one.id other.id) test in
    λ k x y below here next.
    elim (cases_lt (suc k) n) [
      | inl before ↦ c.loop-at.invariant k x y before here next
      | inr last ↦
          let at : suc k ≡ n = omega (arith, below, last) in
          let place : k ≡ n - 1 = omega (arith, at) in
          let left : x ≡ one = same_Some x one (sym here ∙ ap (slice_get shares) place ∙ first) in
          let right : y ≡ other = same_Some y other (sym next ∙ ap (slice_get shares) at ∙ second) in
          (λ i. text_cmp (left i).id (right i).id) ∙ less
    ]

pub returns : goal.returns
returns c = (λ so. IdsRise-walked c.args.shares.now c.loop-at.at c.loop-at-test.false c.loop-at.invariant, λ rise. refl)
