use Rattle.std.proofs.Common.{◌≡◌, ◌+◌, ◌-◌, ◌/◌, ◌<◌, Some, length, slice_get, refl, ap, subst, ◌∙◌, arith}
use Rattle.std.specs.Bool.{OnTrue}
use Rattle.std.specs.Option.{option_map}
use Rattle.std.proofs.lemmas.List.{length-map}
use Rattle.std.proofs.lemmas.Option.{slice_get-map, slice_get_read}
use Rattle.range_assign.specs.Members.{subscriber_of, subscribers_in}
use Rattle.uniform_assign.specs.Former.{EndsOwners, OwnNothingFrom}
use Rattle.uniform_assign.proofs.LastOwner.{nothing_at_end, nothing_from}
use Rattle.uniform_assign.proofs.former.last_owner_end.Goals as goal

pub loop-low-init : goal.loop-low-init
loop-low-init c = (
  omega arith,
  subst (OwnNothingFrom c.args.former.now (subscribers_in c.args.members.now)) (length-map c.args.members.now subscriber_of) (nothing_at_end c.args.former.now (subscribers_in c.args.members.now) c.requires),
)

pub loop-low-preserved-then-ends_owners : goal.loop-low-preserved-then-ends_owners
loop-low-preserved-then-ends_owners c =
    let members = c.args.members.now in
    let middle = c.loop-low.low + (c.loop-low.high - c.loop-low.low) / 2 in
    let bound = c.loop-low.invariant.0 in
    let below : middle < length members = omega (arith, bound, c.loop-low-test.true) in
    let here : slice_get (subscribers_in members) middle ≡ Some (subscriber_of c.index-members-middle.result) =
    slice_get-map subscriber_of members middle ∙ ap (option_map subscriber_of) (slice_get_read members (length members) middle c.index-members-middle.result refl below c.index-members-middle.is) in (
      omega (arith, below),
      nothing_from c.args.former.now (subscribers_in members) c.requires middle (subscriber_of c.index-members-middle.result) here
          (subst (λ b. OnTrue b (EndsOwners c.args.former.now (subscriber_of c.index-members-middle.result))) c.if-ends_owners.true c.ends_owners.ensures),
    )
