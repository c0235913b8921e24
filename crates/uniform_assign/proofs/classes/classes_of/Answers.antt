use Rattle.std.proofs.Common.{◌≡◌, ◌+◌, ◌++◌, ◌∷◌, [], ℕ, List, length, refl, sym, subst, arith}
use Rattle.std.proofs.lemmas.Option.{slice_get_read}
use Rattle.uniform_assign.proofs.Classed.{AreClassesTo, AreClassesTo-all, AreClassesTo-more, AreClassesTo-none}
use Rattle.uniform_assign.proofs.classes.classes_of.Goals as goal

pub loop-list-init : goal.loop-list-init
loop-list-init c = AreClassesTo-none c.args.lists.now c.in_ok-classes.classes.items c.new-takers.result.items c.in_ok-classes.ensures.items c.new-takers.ensures.items

pub loop-list-preserved : goal.loop-list-preserved
loop-list-preserved c =
    let lists = c.args.lists.now in
    let n = c.loop-list.list-index in
    let list = c.list-item.result in
    let is_list = slice_get_read lists (length lists) n list refl c.loop-list-test.true c.list-item.is in
    let class = c.in_ok-class_of.field-0 in
    let new = c.class_of.new.takers.items in
    let pushed : c.push.new.self.items ≡ c.loop-list.classes.items ++ class ∷ [] = c.in_ok-push.ensures.items in
    subst (λ (xs : List ℕ). AreClassesTo lists (n + 1) xs new) (sym pushed)
    (AreClassesTo-more lists n c.loop-list.classes.items c.loop-list.takers.items new list class c.loop-list.invariant is_list c.in_ok-class_of.ensures.class c.in_ok-class_of.ensures.more)

pub returns : goal.returns
returns c =
    let last = c.loop-list-test.false in
    AreClassesTo-all c.args.lists.now c.loop-list.list-index c.loop-list.classes.items c.loop-list.takers.items (omega arith) c.loop-list.invariant
