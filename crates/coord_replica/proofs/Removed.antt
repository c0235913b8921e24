-- Whom a leader's tick removes.
use Rattle.std.proofs.Common.{◌≡◌, ◌⊎◌, inl, inr, ℕ, ◌+◌, ◌-◌, ◌<◌, ◌≤◌, max, min, nat_le, Bool, true, false, Option, option_map, Some, None, refl, sym, ap, ◌∙◌, arith}
use Rattle.std.specs.FinMap as finite
use Rattle.std.proofs.lemmas.Bool.{leb-false, leb-true}
use Rattle.group_types.specs.Deadlines.{IsDue, TicksTakeTheDue}
use Rattle.group_types.specs.Group.{Group, Record}
use Rattle.group_types.specs.Text.{Text}
use Rattle.group_types.specs.Tick.{ticked}
use Rattle.group_types.proofs.Lookups.{not_none, some_is}
use Rattle.coord_node.specs.Coordinator.{Done}
use Rattle.coord_node.specs.EachGroup.{TicksAreOfAllGroups}
use Rattle.coord_node.specs.Steps.{Step}
use Rattle.coord_replica.specs.declared.leading.Leading.{Leading}
use Rattle.coord_replica.specs.Laws.{RemovedWereSilent, time_led}
use Rattle.coord_replica.specs.Proposing.{GREATEST_MOMENT, moment_by, moment_proposed, under_present}
use Rattle.replica_entries.specs.Values.{tick}
use Rattle.coord_replica.proofs.Refusals.{IsDue-from_refusal_of}

-- a member is due, or it isn't
abbrev Decided : ℕ → Record → Type 0
Decided now r = IsDue now r ⊎ (¬ IsDue now r)

by_release : (now : ℕ) (r : Record) → now < r.session_deadline → (o : Option ℕ) → r.release_deadline ≡ o → Decided now r
by_release now r lasts None is = inr (λ (due : IsDue now r). elim due [
  | inl over ↦ omega arith
  | inr late ↦ not_none late.0 (sym is ∙ late.1)
])
by_release now r lasts (Some deadline) is = by (nat_le deadline now) refl
  where
    by : (b : Bool) → nat_le deadline now ≡ b → Decided now r
    by true come = inl (inr (deadline, is, leb-true deadline now come))
    by false later = inr (λ (due : IsDue now r). elim due [
      | inl over ↦ omega arith
      | inr late ↦
          let same : deadline ≡ late.0 = some_is deadline late.0 (sym is ∙ late.1) in
          let over : late.0 ≤ now = late.2 in
          let after : now < deadline = leb-false deadline now later in
          omega arith
    ])

decided : (now : ℕ) (r : Record) → Decided now r
decided now r = by (nat_le r.session_deadline now) refl
  where
    by : (b : Bool) → nat_le r.session_deadline now ≡ b → Decided now r
    by true over = inl (inl (leb-true r.session_deadline now over))
    by false lasts = by_release now r (leb-false r.session_deadline now lasts) r.release_deadline refl

-- whoever is gone was due
was_due : (g : Group) (moment : ℕ) (m : Text) (r : Record) → TicksTakeTheDue → finite.get g.records m ≡ Some r
    → finite.get (ticked g moment).records m ≡ None → IsDue (max g.clock moment) r
was_due g moment m r takes had gone = elim (decided (max g.clock moment) r) [
  | inl due ↦ due
  | inr stays ↦ absurd (not_none r (sym gone ∙ (takes g moment).others m r had stays))
]

-- the numbers
in_led : (a b g l p t : ℕ) → a ≡ min (b + t) g → l ≤ b + t → p ≤ b + t → max a (max l p) ≤ b + t
in_led a b g l p t is log proposals = omega arith

passed : (deadline now clock moment b t : ℕ) → deadline ≤ max clock moment → clock ≤ now → now ≤ moment → moment ≤ b + t → deadline - b ≤ t
passed deadline now clock moment b t due before at led = omega arith

module _ (ticks : TicksAreOfAllGroups Step) (takes : TicksTakeTheDue) where
  pub removed_were_silent : RemovedWereSilent
  removed_were_silent r began clock s t name m member behind x =
      let moment : ℕ = moment_proposed r clock in
      let all = ticks s.coordinator moment (Done x.removed) t.coordinator x.takes.step in
      let after : x.after ≡ ticked x.before moment =
      some_is x.after (ticked x.before moment) (sym x.is ∙ all.each name ∙ ap (option_map (λ (g : Group). ticked g moment)) x.was) in
      let gone : finite.get (ticked x.before moment).records m ≡ None = sym (ap (λ (g : Group). finite.get g.records m) after) ∙ x.gone in
      let at : s.moment ≤ moment = (IsDue-from_refusal_of s (under_present r (tick moment)) x.takes.taken).moment in
      let led : moment ≤ began.moment + time_led began clock =
      in_led (moment_by r.leading clock) began.moment GREATEST_MOMENT r.log.moment r.proposed (time_led began clock)
      (ap (λ (o : Option Leading). moment_by o clock) x.leads) x.log x.proposals in
      let before : x.before.clock ≤ s.moment = behind name x.before x.was in
      elim (was_due x.before moment m member takes x.had gone) [
        | inl over ↦ inl (passed member.session_deadline s.moment x.before.clock moment began.moment (time_led began clock) over before at led)
        | inr late ↦ inr (late.0, late.1, passed late.0 s.moment x.before.clock moment began.moment (time_led began clock) late.2 before at led)
      ]
