-- By how much a leave and a tick raise the group epoch.
use Rattle.std.proofs.Common.{◌≡◌, inl, inr, ℕ, ◌+◌, ◌≤◌, Bool, true, false, cond, ◌||◌, max, nat_le, List, [], ◌∷◌, Option, Some, None, refl, sym, ap, subst, ◌∙◌, true≢false}
use Rattle.std.specs.List.{filter}
use Rattle.std.specs.FinMap as finite
use Rattle.std.proofs.lemmas.Bool.{leb-true, lt-ltb, le-ltb}
use Rattle.group_types.specs.Limits.{GREATEST_EPOCH}
use Rattle.group_types.specs.Text.{Text}
use Rattle.group_types.specs.Group.{Record, Group}
use Rattle.group_types.specs.Leave.{risen, without_member}
use Rattle.group_types.specs.Tick.{at_moment, due, expired, has_come, is_due, ticked, without_members}
use Rattle.group_types.specs.Deadlines.{IsDue}
use Rattle.group_types.specs.Request.{LEAVES_AT}
use Rattle.group_types.specs.HeartbeatStep.{Answer, Arrival}
use Rattle.group_types.specs.Fencing.{IsAcceptedAs}
use Rattle.group_types.proofs.Consistent.{consistent}
use Rattle.group_types.proofs.Lookups.{not_none}
use Rattle.group_types.proofs.Entries.{entries_found}
use Rattle.group_types.proofs.Soundness.{Leaves, leaves_of_sorted}
use Rattle.group_types.proofs.Accepted.{Came, unchanged, has_left, went_away, taken_in, came, nobody}
use Rattle.machine_laws.specs.Epochs.{LeavesAndTicksRaise, RisesByOne}

risen_rises : (epoch : ℕ) → RisesByOne epoch (risen epoch)
risen_rises epoch =
    record {
      below = λ less. ap (λ b. cond b (epoch + 1) epoch) (lt-ltb epoch GREATEST_EPOCH less);
      greatest = λ more. ap (λ b. cond b (epoch + 1) epoch) (le-ltb epoch GREATEST_EPOCH more);
    }

-- ---- a tick

without_members_epoch : (ms : List (Text × Record)) (g : Group) → (without_members g ms).epoch ≡ g.epoch
without_members_epoch [] g = refl
without_members_epoch (m ∷ ms) g = without_members_epoch ms (without_member g m.0 m.1.stamp)

raised : (before after : ℕ) → after ≡ risen before → RisesByOne before after
raised before after is = subst (RisesByOne before) (sym is) (risen_rises before)

ticks : (g : Group) (moment : ℕ) (m : Text) (r : Record)
    → finite.get g.records m ≡ Some r → finite.get (ticked g moment).records m ≡ None → RisesByOne g.epoch (ticked g moment).epoch
ticks g moment m r there gone = by (due (at_moment g moment)) refl
  where
    by : (ms : List (Text × Record)) → due (at_moment g moment) ≡ ms → RisesByOne g.epoch (ticked g moment).epoch
    by [] nobody =
        absurd (not_none r (sym gone ∙ ap (λ (ms : List (Text × Record)). finite.get (expired (at_moment g moment) ms).records m) nobody ∙ there))
    by (x ∷ xs) is =
        raised g.epoch (ticked g moment).epoch
        (ap (λ (ms : List (Text × Record)). (expired (at_moment g moment) ms).epoch) is
        ∙ without_members_epoch (x ∷ xs) (record (at_moment g moment) { epoch = risen g.epoch }))

-- ---- a tick at which nobody is due

come : (now : ℕ) (o : Option ℕ) → has_come now o ≡ true → (deadline : ℕ) × (o ≡ Some deadline) × (deadline ≤ now)
come now None never = absurd (true≢false (sym never))
come now (Some deadline) so = (deadline, refl, leb-true deadline now so)

due_of : (now : ℕ) (r : Record) → is_due now r ≡ true → IsDue now r
due_of now r so = by (nat_le r.session_deadline now) refl so
  where
    by : (b : Bool) → nat_le r.session_deadline now ≡ b → (b || has_come now r.release_deadline) ≡ true → IsDue now r
    by true over so = inl (leb-true r.session_deadline now over)
    by false lasts so = inr (come now r.release_deadline so)

first_passes : (f : Text × Record → Bool) (es : List (Text × Record)) (x : Text × Record) (xs : List (Text × Record)) → filter f es ≡ x ∷ xs → f x ≡ true
first_passes f [] x xs never = cc
first_passes f (e ∷ es) x xs is = by (first_passes f es x xs) (f e) refl is
  where
    by : (filter f es ≡ x ∷ xs → f x ≡ true) → (b : Bool) → f e ≡ b → cond b (e ∷ filter f es) (filter f es) ≡ x ∷ xs → f x ≡ true
    by rest true so is = let same : e ≡ x = cc in ap f (sym same) ∙ so
    by rest false so is = rest is

quiet_ticks : (g : Group) (moment : ℕ)
    → ((m : Text) (r : Record) → finite.get g.records m ≡ Some r → ¬ IsDue (max g.clock moment) r)
    → (ticked g moment).epoch ≡ g.epoch
quiet_ticks g moment lasts = by (due (at_moment g moment)) refl
  where
    by : (ms : List (Text × Record)) → due (at_moment g moment) ≡ ms → (ticked g moment).epoch ≡ g.epoch
    by [] nobody = ap (λ (ms : List (Text × Record)). (expired (at_moment g moment) ms).epoch) nobody
    by (x ∷ xs) is =
        let now : Group = at_moment g moment in
        let leaves = subst (Leaves g.records) is (leaves_of_sorted (λ m. is_due now.clock m.1) g.records (finite.entries g.records) (finite.entries_sorted g.records) (entries_found g.records)) in
        absurd (lasts x.0 x.1 leaves.0 (due_of now.clock x.1 (first_passes (λ m. is_due now.clock m.1) (finite.entries g.records) x xs is)))

-- ---- all of it

leaves : (g : Group) (a : Arrival) (m : Text) (answer : Answer) (new : Group)
    → Came g a answer new → a.heartbeat.epoch ≡ LEAVES_AT → IsAcceptedAs m answer → RisesByOne g.epoch new.epoch
leaves g a m answer new (unchanged same fails) at accepted = absurd (nobody answer fails m accepted)
leaves g a m answer new (has_left r epoch there later answers is) at accepted = raised g.epoch new.epoch (ap (λ (x : Group). x.epoch) is)
leaves g a m answer new (went_away r epoch there later answers is) at accepted = cc
leaves g a m answer new (taken_in d drafting stages takes) at accepted = let no = drafting.epoch.1 in cc

pub leaves_and_ticks_raise : LeavesAndTicksRaise
leaves_and_ticks_raise =
    record {
      leaves = λ g a m answer new sound step at accepted. leaves g a m answer new (came g (consistent g sound) a answer new step) at accepted;
      ticks = ticks;
      quiet_ticks = quiet_ticks;
    }
