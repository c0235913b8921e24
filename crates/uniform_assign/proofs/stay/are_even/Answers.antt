use Rattle.std.proofs.Common.{◌≡◌, Some, length, slice_get, refl, sym, ap, ◌∙◌, arith, inl, inr}
use Rattle.std.proofs.lemmas.Bool.{cases_lt}
use Rattle.std.proofs.lemmas.List.{length-map}
use Rattle.std.proofs.lemmas.Option.{same_Some, slice_get_read}
use Rattle.group_types.specs.Assignors.{Subscriber}
use Rattle.group_types.specs.Uniform.{count}
use Rattle.range_assign.specs.Members.{subscriber_of, subscribers_in}
use Rattle.range_assign.specs.Shares.{shares_in}
use Rattle.uniform_assign.proofs.Lists.{slice_get-map_at}
use Rattle.uniform_assign.proofs.Staying.{IsEven-of}
use Rattle.uniform_assign.proofs.stay.are_even.Goals as goal

pub loop-member-preserved : goal.loop-member-preserved
loop-member-preserved c = λ k s low is.
    let members = c.args.members.now in
    let n = c.loop-member.member-index in
    let m = c.member-item.result in
    elim (cases_lt k n) [
      | inl below ↦ c.loop-member.invariant k s below is
      | inr above ↦
          let same : k ≡ n = omega arith in
          let here : slice_get (subscribers_in members) n ≡ Some (subscriber_of m) =
          slice_get-map_at subscriber_of members n m (slice_get_read members (length members) n m refl c.loop-member-test.true c.member-item.is) in
          let one : subscriber_of m ≡ s = same_Some (subscriber_of m) s (sym here ∙ ap (slice_get (subscribers_in members)) (sym same) ∙ is) in
          let owned : c.owned_near-owned.result.0 ≡ count c.args.former.now s.id =
          c.owned_near-owned.ensures ∙ ap (count c.args.former.now) (c.as_str.ensures.value ∙ ap (λ (x : Subscriber). x.id) one) in
          let near = c.if-saturating_add-most.false in
          let sum = c.saturating_add.ensures in
          omega (arith, owned)
    ]

pub returns : goal.returns
returns c = λ view.
    let long = length-map c.args.members.now subscriber_of in
    let last = c.loop-member-test.false in
    IsEven-of view (subscribers_in c.args.members.now) c.args.former.now (shares_in c.shares.result.now) c.loop-member.member-index c.most_owned-most.result
    c.shares.ensures.spread c.shares.ensures.apart c.most_owned-most.ensures (omega arith) c.loop-member.invariant

pub returns-then-most-le1 : goal.returns-then-most-le1
returns-then-most-le1 c = λ view.
    let subs = subscribers_in c.args.members.now in
    let few = c.if-most-le1.true in
    IsEven-of view subs c.args.former.now (shares_in c.shares.result.now) (length subs) c.most_owned-most.result
    c.shares.ensures.spread c.shares.ensures.apart c.most_owned-most.ensures (omega arith) (λ k s low is. omega arith)
