use Rattle.std.proofs.Common.{◌≡◌, ◌-◌, Bool, true, false, refl, sym, ◌∙◌, arith}
use Rattle.std.specs.declared.cmp.Ordering.{Ordering}
use Rattle.std.specs.declared.cmp.Ordering.TheVariants.{Less, Equal, Greater}
use Rattle.std.specs.Bool.{OnTrue}
use Rattle.std.specs.Ordering.{is_gt, is_lt}
use Rattle.range_assign.proofs.IdOrder.{IsPlace-between, compared_at}
use Rattle.range_assign.proofs.spread.is_gap.Goals as goal
use Rattle.range_assign.proofs.spread.is_gap.Goals.{else-place-gt0-via-then-place-gt0+else-not-is_lt, else-place-gt0-via-else-place-gt0}

less : (o : Ordering) → is_lt o ≡ true → o ≡ Less
less Less is = refl
less Equal is = cc
less Greater is = cc

greater : (o : Ordering) → is_gt o ≡ true → o ≡ Greater
greater Less is = cc
greater Equal is = cc
greater Greater is = refl

where_true : {P : Type 0} (b : Bool) → (b ≡ true → P) → OnTrue b P
where_true true p = p refl
where_true false p = tt

pub returns-then-place-shares-2 : goal.returns-then-place-shares-2
returns-then-place-shares-2 c =
    let xs = c.args.shares.now in
    let last = c.if-place-shares-2.true in
    where_true _ (λ _. IsPlace-between xs c.args.id.now c.args.place c.requires c.if-place-shares.false
    (λ d positive. elim c.else-place-gt0.branch [
      | else-place-gt0-via-then-place-gt0+else-not-is_lt w ↦
          let within = c.if-place-shares.false in
          compared_at xs (c.args.place - 1) w.index-shares-place.result d c.args.id.now (omega arith)
          ∙ sym w.compare.ensures ∙ less w.compare.result (sym w.is_lt.ensures ∙ w.if-not-is_lt.false)
      | else-place-gt0-via-else-place-gt0 w ↦ let none = w.if-place-gt0.false in absurd (omega arith)
    ])
    (λ d within. absurd (omega arith)))

pub returns-else-place-shares-2 : goal.returns-else-place-shares-2
returns-else-place-shares-2 c =
    let xs = c.args.shares.now in
    where_true _ (λ is. IsPlace-between xs c.args.id.now c.args.place c.requires c.if-place-shares.false
    (λ d positive. elim c.else-place-gt0.branch [
      | else-place-gt0-via-then-place-gt0+else-not-is_lt w ↦
          let within = c.if-place-shares.false in
          compared_at xs (c.args.place - 1) w.index-shares-place.result d c.args.id.now (omega arith)
          ∙ sym w.compare.ensures ∙ less w.compare.result (sym w.is_lt.ensures ∙ w.if-not-is_lt.false)
      | else-place-gt0-via-else-place-gt0 w ↦ let none = w.if-place-gt0.false in absurd (omega arith)
    ])
    (λ d within.
    compared_at xs c.args.place c.index-shares-place-else-place-shares-2.result d c.args.id.now within
    ∙ sym c.compare-else-place-shares-2.ensures ∙ greater c.compare-else-place-shares-2.result (sym c.is_gt.ensures ∙ is)))
