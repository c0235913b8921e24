use Rattle.std.proofs.Common.{◌≡◌, ◌≤◌, length, Option, None, refl, sym, ap, subst, ◌∙◌, arith, true≢false}
use Rattle.std.specs.Option.{option_map}
use Rattle.std.specs.FinMap as finite
use Rattle.group_types.specs.Text.{Text}
use Rattle.group_core.specs.GroupView.{group_of}
use Rattle.group_core.specs.Restoring.{MemberFits}
use Rattle.group_core.proofs.Finishing.{all_members_fit, member_of_rank, somebody}
use Rattle.group_core.proofs.fitting.members_fit.Goals as goal

none_mapped : {T U : Type 0} (f : T → U) (o : Option T) (x : Option U) → o ≡ None → option_map f o ≡ x → None ≡ x
none_mapped f o x none is = sym (ap (option_map f) none) ∙ is

pub unreachable-requires : goal.unreachable-requires
unreachable-requires c =
    let records = c.args.state.now.records.records in
    somebody records c.loop-rank.rank (omega (arith, c.loop-rank-test.true, c.len-rank-end.ensures))
    (none_mapped (λ f. (f.0.now, f.1.now)) c.member_at.result _ c.in_default.is c.member_at.ensures)

pub returns-then-not-member_fits : goal.returns-then-not-member_fits
returns-then-not-member_fits c =
    let g = group_of c.args.state.now in
    let id = c.in-Some.id.now in
    let r = c.in-Some.record.now in (
      λ so. absurd (true≢false (sym so)),
      λ all.
          let fits = all id r (member_of_rank g.records c.loop-rank.rank (id, r) (sym c.in-Some.ensures)) in
          let says = c.member_fits.ensures.1 (subst (λ (t : Text). MemberFits g t r) (sym c.as_str.ensures.value) fits) in
          absurd (true≢false (sym says ∙ c.if-not-member_fits.true)),
    )

pub returns : goal.returns
returns c =
    let g = group_of c.args.state.now in
    let long : length (finite.entries g.records) ≤ c.loop-rank.rank =
    omega (arith, finite.len-entries g.records, c.loop-rank-test.false, c.len-rank-end.ensures) in
    (λ _. all_members_fit g c.loop-rank.rank long c.loop-rank.invariant, λ _. refl)
