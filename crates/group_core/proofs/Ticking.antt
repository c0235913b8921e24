-- Ticks: members that leave one after the other, the first that is due each time, are all that are due.
use Rattle.std.proofs.Common.{◌≡◌, ◌≢◌, ℕ, zero, suc, ◌<◌, ◌≤◌, Bool, true, false, cond, List, [], ◌∷◌, length, Some, slice_get, filter, refl, sym, ap, subst, ◌∙◌, arith}
use Rattle.std.specs.List.{AllByRecursion}
use Rattle.std.specs.FinMap as finite
use Rattle.group_types.specs.Limits.{MOST_MEMBERS}
use Rattle.group_types.specs.Text.{Text}
use Rattle.group_types.specs.Topics.{Topics}
use Rattle.group_types.specs.Group.{Group, Record}
use Rattle.group_types.specs.Leave.{risen, without_member}
use Rattle.group_types.specs.Sound.{IsSound}
use Rattle.group_types.specs.Tick.{NoneIsDue, at_moment, due, expired, is_due, removed_by_tick, ticked, without_members}
use Rattle.group_types.proofs.Entries.{entries_found}
use Rattle.group_types.proofs.Lookups.{not_none, some_is}
use Rattle.group_epochs.specs.Table.{NoneIsDueBefore, member_at}
use Rattle.group_epochs.proofs.Cuts.{cut, entries_left}
use Rattle.group_core.specs.Outcome.{IsCurrent}

-- ---- those of a list that pass

module _ {X : Type 0} where
  -- the first that passes comes first, and the others that pass are those of the others
  first_passes : (test : X → Bool) (xs : List X) (k : ℕ) (x : X) → slice_get xs k ≡ Some x → test x ≡ true
      → ((j : ℕ) (y : X) → j < k → slice_get xs j ≡ Some y → test y ≡ false) → filter test xs ≡ x ∷ filter test (cut xs k)
  first_passes test [] k x there passes none = absurd (not_none x there)
  first_passes test (y ∷ xs) zero x there passes none =
      let same = some_is y x there in
      ap (λ b. cond b (y ∷ filter test xs) (filter test xs)) (ap test same ∙ passes) ∙ ap (λ z. z ∷ filter test xs) same
  first_passes test (y ∷ xs) (suc k) x there passes none =
      let fails = none 0 y (omega arith) refl in
      ap (λ b. cond b (y ∷ filter test xs) (filter test xs)) fails
      ∙ first_passes test xs k x there passes (λ j z below at. none (suc j) z (omega (arith, below)) at)
      ∙ ap (λ b. x ∷ cond b (y ∷ filter test (cut xs k)) (filter test (cut xs k))) (sym fails)

  none_passes : (test : X → Bool) (xs : List X) → AllByRecursion (λ x. test x ≡ false) xs → filter test xs ≡ []
  none_passes test [] all = refl
  none_passes test (x ∷ xs) all = ap (λ b. cond b (x ∷ filter test xs) (filter test xs)) all.0 ∙ none_passes test xs all.1

  few_pass : (test : X → Bool) (xs : List X) → length (filter test xs) ≤ length xs
  few_pass test [] = omega arith
  few_pass test (x ∷ xs) =
      let rest = few_pass test xs in
      elim (test x) as (λ b. length (cond b (x ∷ filter test xs) (filter test xs)) ≤ suc (length xs)) [ true ↦ omega (arith, rest) | false ↦ omega (arith, rest) ]

-- ---- the first that is due leaves

module _ (g : Group) (rank : ℕ) (m : Text) (r : Record) (there : member_at g.records rank ≡ Some (m, r)) (before : NoneIsDueBefore g.records g.clock rank) where
  -- it is the first of all that are due, and the others are due without it
  pub due_first : is_due g.clock r ≡ true → due g ≡ (m, r) ∷ due (without_member g m r.stamp)
  due_first is =
      first_passes (λ e. is_due g.clock e.1) (finite.entries g.records) rank (m, r) there is before
      ∙ ap (λ es. (m, r) ∷ filter (λ e. is_due g.clock e.1) es) (sym (entries_left g.records rank m r there))

-- where nobody's deadline has come, nobody is due
pub due_none : (g : Group) → NoneIsDue g.records g.clock → due g ≡ []
due_none g none = none_passes (λ e. is_due g.clock e.1) (finite.entries g.records) (each (finite.entries g.records) (entries_found g.records))
  where
    each : (es : List (Text × Record)) → AllByRecursion (λ e. finite.get g.records e.0 ≡ Some e.1) es → AllByRecursion (λ e. is_due g.clock e.1 ≡ false) es
    each [] all = tt
    each (e ∷ es) all = (none e.0 e.1 all.0, each es all.1)

pub few_due : (g : Group) → IsSound g → length (due g) ≤ MOST_MEMBERS
few_due g sound =
    let some = few_pass (λ e. is_due g.clock e.1) (finite.entries g.records) in
    let all = finite.len-entries g.records in
    let few = sound.few_members in
    omega (arith, some, all, few)

-- ---- the group epoch

-- whether it rises before the members leave or after
epoch_beside : (g : Group) (ms : List (Text × Record)) (epoch : ℕ) → without_members (record g { epoch = epoch }) ms ≡ record (without_members g ms) { epoch = epoch }
epoch_beside g [] epoch = refl
epoch_beside g (m ∷ ms) epoch = epoch_beside (without_member g m.0 m.1.stamp) ms epoch

epoch_stays : (g : Group) (ms : List (Text × Record)) → (without_members g ms).epoch ≡ g.epoch
epoch_stays g [] = refl
epoch_stays g (m ∷ ms) = epoch_stays (without_member g m.0 m.1.stamp) ms

-- where somebody leaves, it rises once
pub expired_some : (g : Group) (ms : List (Text × Record)) → length ms ≢ 0
    → record (without_members g ms) { epoch = risen (without_members g ms).epoch } ≡ expired g ms
expired_some g [] some = absurd (some refl)
expired_some g (m ∷ ms) some =
    ap (λ e. record (without_members g (m ∷ ms)) { epoch = risen e }) (epoch_stays g (m ∷ ms)) ∙ sym (epoch_beside g (m ∷ ms) (risen g.epoch))

-- ---- a tick that removes nobody

-- only the clock differs afterwards
pub ticked_none : (g : Group) (moment : ℕ) → removed_by_tick g moment ≡ 0 → ticked g moment ≡ at_moment g moment
ticked_none g moment none = by (due (at_moment g moment)) none
  where
    by : (ms : List (Text × Record)) → length ms ≡ 0 → expired (at_moment g moment) ms ≡ at_moment g moment
    by [] none = refl
    by (m ∷ ms) none = absurd (omega (arith, none))

-- so the group's view stays that of an image
pub current_ticked : (g : Group) (moment : ℕ) (image : Topics) → removed_by_tick g moment ≡ 0 → IsCurrent g image → IsCurrent (ticked g moment) image
current_ticked g moment image none current = subst (λ (x : Group). IsCurrent x image) (sym (ticked_none g moment none)) current
