use Rattle.std.proofs.Common.{◌≡◌, ◌++◌, ◌∷◌, [], ℕ, List, length, ap, subst, ◌∙◌, arith, inr}
use Rattle.std.specs.Global.{Vec}
use Rattle.std.specs.List.{slice_get}
use Rattle.uniform_assign.specs.Boards.{IsListAt}
use Rattle.uniform_assign.proofs.Lists.{pushed_at}
use Rattle.uniform_assign.proofs.classes.class_of.Goals as goal

pub returns-then-is_at-clause-class : goal.returns-then-is_at-clause-class
returns-then-is_at-clause-class c =
    subst (λ (xs : List (Vec ℕ)). IsListAt xs c.args.list.now.items c.in-Some.class.now) c.deref.ensures.value
    (subst (λ (ys : List ℕ). IsListAt c.deref.result.now ys c.in-Some.class.now) c.deref-in-Some.ensures.value c.if-is_at.ensures)

pub returns-clause-class : goal.returns-clause-class
returns-clause-class c =
    let v = c.in_ok-from_slice-2.field-0 in
    let old = c.args.takers.now.items in
    let pushed : c.push.new.self.items ≡ old ++ v ∷ [] = c.in_ok-push.ensures.items in
    let shown = c.len-class.ensures in
    let ok = c.args.takers.now.ok in
    let last : c.len-class.result ≡ length old = omega arith in
    (v, ap (λ xs. slice_get xs c.len-class.result) pushed ∙ ap (slice_get (old ++ v ∷ [])) last ∙ pushed_at old v, c.in_ok-from_slice-2.ensures.items ∙ c.deref-3.ensures.value)

pub returns-clause-more : goal.returns-clause-more
returns-clause-more c =
    let v = c.in_ok-from_slice-2.field-0 in
    inr (v, c.in_ok-from_slice-2.ensures.items ∙ c.deref-3.ensures.value, c.in_ok-push.ensures.items)
