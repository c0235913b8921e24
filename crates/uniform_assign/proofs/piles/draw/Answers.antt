use Rattle.std.proofs.Common.{◌≡◌, get_or, sym, ap, subst, ◌∙◌, arith, inl, inr}
use Rattle.std.specs.List.{slice_get}
use Rattle.std.proofs.lemmas.Bool.{cases_lt}
use Rattle.std.proofs.lemmas.Option.{same_Some, slice_get-get_or, slice_get_within}
use Rattle.uniform_assign.specs.declared.piles.Owned.{Owned}
use Rattle.uniform_assign.specs.Piles.{IsInHand}
use Rattle.uniform_assign.proofs.piles.draw.Goals as goal

pub loop-one-preserved : goal.loop-one-preserved
loop-one-preserved c =
    let listed = c.args.listed.now in
    let n = c.loop-one.one-index in
    let (drawn, kept, classes) = c.loop-one.invariant in
    let added = c.in_ok-add.ensures in
    let one = get_or listed n (record { class = 0; place = 0 }) in
    let is_one = slice_get-get_or listed n (record { class = 0; place = 0 }) c.loop-one-test.true in (
      λ i other low is. elim (cases_lt i n) [
        | inl below ↦ added.kept other.place (drawn i other below is)
        | inr above ↦
            let same : n ≡ i = omega arith in
            let equal : one ≡ other = same_Some one other (sym is_one ∙ ap (slice_get listed) same ∙ is) in
            subst (λ (o : Owned). IsInHand c.add.new.hand.items o.place) equal added.added
      ],
      λ k there. added.kept k (kept k there),
      λ t k there. elim (added.classes t k there) [
        | inl was ↦ classes t k was
        | inr (of_class, at) ↦ inr (n, one, is_one, sym of_class, sym at)
      ],
    )

pub returns-clause-drawn : goal.returns-clause-drawn
returns-clause-drawn c = λ t k (i, one, is_one, of_class, at).
    let (drawn, kept, classes) = c.loop-one.invariant in
    let last = c.loop-one-test.false in
    let within = slice_get_within c.args.listed.now i one is_one in
    subst (IsInHand c.loop-one.hand.items) at (drawn i one (omega arith) is_one)
