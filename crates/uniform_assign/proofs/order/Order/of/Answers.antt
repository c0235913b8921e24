use Rattle.std.proofs.Common.{◌≡◌, ◌<◌, ◌+◌, ◌-◌, ◌++◌, ◌∷◌, [], ℕ, List, length, get_or, sym, ap, subst, ◌∙◌, arith}
use Rattle.std.specs.List.{All}
use Rattle.uniform_assign.specs.declared.order.TheConstants.{MOST}
use Rattle.uniform_assign.specs.CountSets.{counts_of}
use Rattle.uniform_assign.specs.Orders.{AreLacks}
use Rattle.uniform_assign.proofs.Ordered.{AreLacks-listed, AreListedTo, AreListedTo-more, AreListedTo-none, listed-within}
use Rattle.uniform_assign.proofs.order.Order.of.Goals as goal

pub loop-member-init : goal.loop-member-init
loop-member-init c = AreListedTo-none MOST c.args.counts.now c.in_ok-lacks.lacks.items c.in_ok-members.members.items c.in_ok-lacks.ensures.items c.in_ok-members.ensures.items

pub loop-member-preserved : goal.loop-member-preserved
loop-member-preserved c =
    let counts = c.args.counts.now in
    let n = c.loop-member.member in
    let lacks = c.loop-member.lacks.items in
    let members = c.loop-member.members.items in
    let l = MOST - get_or counts n 0 in
    let one : c.push.new.self.items ≡ lacks ++ l ∷ [] = c.in_ok-push.ensures.items in
    let other : c.push-in-loop-member.new.self.items ≡ members ++ n ∷ [] = c.in_ok-push-2.ensures.items in
    subst (λ (xs : List ℕ). AreListedTo MOST counts xs c.push-in-loop-member.new.self.items (n + 1)) (sym one)
    (subst (λ (xs : List ℕ). AreListedTo MOST counts (lacks ++ l ∷ []) xs (n + 1)) (sym other)
    (AreListedTo-more MOST counts lacks members n l c.loop-member.invariant (omega arith)))

pub of-requires : goal.of-requires
of-requires c =
    let lacks = c.loop-member.lacks.items in
    let members = c.loop-member.members.items in
    subst (λ (xs : List ℕ). All (λ m. m < length xs) c.deref-2.result.now) (sym c.deref.ensures.value)
    (subst (λ (xs : List ℕ). All (λ m. m < length lacks) xs) (sym c.deref-2.ensures.value)
    (listed-within MOST c.args.counts.now lacks members c.loop-member.member c.loop-member.invariant))

pub returns : goal.returns
returns c =
    let lacks = c.loop-member.lacks.items in
    let members = c.loop-member.members.items in
    let last = c.loop-member-test.false in
    let end = c.loop-member.auto.member-end in
    let is : c.in_ok-of.field-0 ≡ counts_of lacks members = c.in_ok-of.ensures ∙ ap (λ (xs : List ℕ). counts_of xs c.deref-2.result.now) c.deref.ensures.value ∙ ap (λ (xs : List ℕ). counts_of lacks xs) c.deref-2.ensures.value in
    subst (AreLacks MOST c.args.counts.now) (sym is) (AreLacks-listed MOST c.args.counts.now lacks members c.loop-member.member c.loop-member.invariant (omega arith))
