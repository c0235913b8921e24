use Rattle.std.proofs.Common.{◌≡◌, ◌≤◌, Option, sym, ap, subst, ◌∙◌, rules, tests, true≢false}
use Rattle.std.specs.Prelude.{MatchOption}
use Rattle.std.specs.FinMap as finite
use Rattle.group_types.specs.Limits.{GREATEST_EPOCH}
use Rattle.group_types.specs.Text.{text_cmp}
use Rattle.group_types.specs.Sound.{IsSound}
use Rattle.group_types.proofs.Lookups.{not_none}
use Rattle.range_assign.specs.Shares.{AreShares, shares_in, spread_of}
use Rattle.group_epochs.specs.Records.{Marks}
use Rattle.group_target.specs.TargetState.{TargetState}
use Rattle.group_core.specs.Group.{GroupValue}
use Rattle.group_core.specs.GroupView.{group_of}
use Rattle.group_core.specs.Restoring.{CanBeFinished, OwnersFit, finished}
use Rattle.group_core.proofs.Finishing.{owners_of}
use Rattle.group_core.proofs.RestoringSteps.{finished_by}
use Rattle.group_core.proofs.restoring.Restoring.finish.Goals as goal

pub returns-then-not-branch : goal.returns-then-not-branch
returns-then-not-branch c = λ can.
    let s = c.self.inside.state in
    let shares = shares_in c.args.shares.items in
    let here = subst (λ (v : GroupValue). CanBeFinished v.state c.args.numbers shares c.args.view) (sym c.self.view_is) can in
    let owners = owners_of (group_of s) s.grants c.args.numbers shares c.args.view here in
    let says = c.in_ok-owners_fit.ensures.1 (subst (λ xs. OwnersFit s.records.records c.args.view (shares_in xs)) (sym c.deref.ensures.value) owners) in
    true≢false (sym says ∙ c.if-not-branch.true)

pub of-requires-clause-sound : goal.of-requires-clause-sound
of-requires-clause-sound c =
    let s = c.self.inside.state in
    let n = c.args.numbers in
    let shares = shares_in c.args.shares.items in
    let by = finished_by s c.in-Some.target n shares c.args.view c.self.invariant.restoring c.topics.ensures.sound
    (subst (λ e. e ≤ GREATEST_EPOCH) c.as_u32.ensures.value c.as_u32.ensures.limit)
    (subst (λ xs. OwnersFit s.records.records c.args.view (shares_in xs)) c.deref.ensures.value (c.in_ok-owners_fit.ensures.0 c.if-not-branch.false))
    (subst (λ (o : Option TargetState). MatchOption o (¬ AreShares shares) (λ t. AreShares shares × (t.owners ≡ spread_of shares) × (t.epoch ≡ n.target_epoch))) c.in-Some.is c.in_ok-target.ensures)
    (search (rules, tests)) (c.members_fit.ensures.0 c.if-not-members_fit.false) in
    subst IsSound (sym by.1) by.0.sound

pub of-requires-clause-marks : goal.of-requires-clause-marks
of-requires-clause-marks c = λ m e is.
    absurd (not_none e (sym (ap (λ (ms : Marks). finite.get ms m) c.self.invariant.unmarked ∙ finite.get-empty text_cmp m) ∙ is))

pub returns : goal.returns
returns c =
    let s = c.self.inside.state in
    let n = c.args.numbers in
    let shares = shares_in c.args.shares.items in
    let by = finished_by s c.in-Some.target n shares c.args.view c.self.invariant.restoring c.topics.ensures.sound
    (subst (λ e. e ≤ GREATEST_EPOCH) c.as_u32.ensures.value c.as_u32.ensures.limit)
    (subst (λ xs. OwnersFit s.records.records c.args.view (shares_in xs)) c.deref.ensures.value (c.in_ok-owners_fit.ensures.0 c.if-not-branch.false))
    (subst (λ (o : Option TargetState). MatchOption o (¬ AreShares shares) (λ t. AreShares shares × (t.owners ≡ spread_of shares) × (t.epoch ≡ n.target_epoch))) c.in-Some.is c.in_ok-target.ensures)
    (search (rules, tests)) (c.members_fit.ensures.0 c.if-not-members_fit.false) in (
      subst (λ (v : GroupValue). CanBeFinished v.state n shares c.args.view) c.self.view_is by.0,
      c.of.ensures.state ∙ by.1 ∙ ap (λ (v : GroupValue). finished v.state n shares c.args.view) c.self.view_is,
      c.of.ensures.holders ∙ ap (λ (v : GroupValue). v.holders) c.self.view_is,
    )
