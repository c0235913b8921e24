use Rattle.std.proofs.Common.{◌≡◌, ◌<◌, ℕ, List, length, take, get_or, arith, inl, inr, refl, sym, ap, ◌∙◌, true≢false}
use Rattle.std.proofs.lemmas.Bool.{cases_order}
use Rattle.std.proofs.lemmas.List.{get_or-take, get_or_default, length-take-le}
use Rattle.range_assign.specs.declared.subs.Subscriber.{Subscriber}
use Rattle.range_assign.proofs.Apart.{IdsAreApart-of, one_id_is_not_apart}
use Rattle.range_assign.proofs.subs.Subscriber.are_apart.Goals as goal

pub returns : goal.returns
returns c = (λ so. IdsAreApart-of c.args.members.now c.loop-place.place c.loop-place-test.false c.loop-place.invariant, λ _. refl)

pub returns-then-is : goal.returns-then-is
returns-then-is c =
    let members = c.args.members.now in
    let place = c.loop-place.place in
    let earlier = c.loop-earlier.earlier-index in
    let in_place : place < length members = omega arith in
    let long : length (take place members) ≡ place = length-take-le place members (omega arith) in
    let before : earlier < place = omega arith in
    let item = c.earlier-item.result in
    let earlier_id : (get_or members earlier item).id.now ≡ item.id.now =
    ap (λ (m : Subscriber). m.id.now) (sym (get_or-take place members earlier item before) ∙ sym c.earlier-item.is) in
    let later_id : (get_or members place item).id.now ≡ c.index-members-place.result.id.now =
    ap (λ (m : Subscriber). m.id.now) (get_or_default members place item c.index-members-place.result in_place ∙ sym c.index-members-place.is) in
    let same : item.id.now ≡ c.index-members-place.result.id.now = c.if-is.ensures.same.0 refl ∙ c.as_str.ensures.value in (
      λ so. absurd (true≢false (sym so)),
      λ apart. absurd (one_id_is_not_apart members earlier place item before in_place (earlier_id ∙ same ∙ sym later_id) apart),
    )

pub loop-place-preserved : goal.loop-place-preserved
loop-place-preserved c = λ i j d rise below same.
    let members = c.args.members.now in
    let place = c.loop-place.place in
    let in_place : place < length members = omega arith in
    let long : length (take place members) ≡ place = length-take-le place members (omega arith) in
    elim (cases_order j place) [
      | inl is ↦
          let before : i < place = omega arith in
          let later : get_or members j d ≡ c.index-members-place.result =
          ap (λ k. get_or members k d) is ∙ get_or_default members place d c.index-members-place.result in_place ∙ sym c.index-members-place.is in
          let id : Subscriber → List ℕ = λ m. m.id.now in
          c.loop-earlier.invariant i d (omega arith) (ap id (get_or-take place members i d before) ∙ same ∙ ap id later)
      | inr other ↦ elim other [
        | inl lower ↦ c.loop-place.invariant i j d rise lower same
        | inr higher ↦ omega arith
      ]
    ]
