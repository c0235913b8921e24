use Rattle.std.proofs.Common.{Some, None, slice_get, get_or, sym, ap, ◌∙◌, arith, inl, inr}
use Rattle.std.proofs.lemmas.Option.{get_or_from_slice_get, slice_get-get_or}
use Rattle.uniform_assign.proofs.Heaps.{owner_is, owner_is_not}
use Rattle.uniform_assign.proofs.pile.Pile.first_owned.Goals as goal

pub bounds-owners-place : goal.bounds-owners-place
bounds-owners-place c = c.requires c.in-Some.place (c.loop-place.invariant.1 c.in-Some.place c.in-Some.ensures.0)

pub offset_bounds-owners-place : goal.offset_bounds-owners-place
offset_bounds-owners-place c =
    let low = c.requires c.in-Some.place (c.loop-place.invariant.1 c.in-Some.place c.in-Some.ensures.0) in
    omega arith

pub returns-then-eq-clause-first : goal.returns-then-eq-clause-first
returns-then-eq-clause-first c =
    let place = c.in-Some.place in
    let low = c.requires place (c.loop-place.invariant.1 place c.in-Some.ensures.0) in (
      c.in-Some.ensures.0,
      slice_get-get_or c.args.owners.now place None low ∙ ap Some (owner_is (get_or c.args.owners.now place None) c.args.member c.if-eq.ensures),
      c.in-Some.ensures.1,
    )

pub loop-place-preserved : goal.loop-place-preserved
loop-place-preserved c =
    let before = c.loop-place.invariant in
    let place = c.in-Some.place in (
      c.drop_first.ensures.class ∙ before.0,
      λ k is. before.1 k (c.drop_first.ensures.fewer k is),
      λ k is owns. elim (c.drop_first.ensures.kept k (before.2 k is owns)) [
        | inl here ↦ absurd (owner_is_not (get_or c.args.owners.now place None) c.args.member c.if-eq.ensures
            (get_or_from_slice_get c.args.owners.now place (Some c.args.member) None (ap (slice_get c.args.owners.now) (sym here) ∙ owns)))
        | inr there ↦ there
      ],
    )
