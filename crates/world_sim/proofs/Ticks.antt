-- A tick and a commit are passes.
use Rattle.std.proofs.Common.{◌≡◌, ◌⊎◌, Bool, true, false, cond, not, ◌&&◌, List, [], ◌∷◌, Some, refl, sym, ap, subst, ◌∙◌, inl, inr, le_refl, ℕ, ◌≤◌}
use Rattle.std.specs.List.{AllByRecursion, Contains, filter}
use Rattle.std.specs.Ordering.{eq_by_cmp}
use Rattle.std.specs.FinMap as finite
use Rattle.group_types.specs.declared.stamp.Stamp.{Stamp}
use Rattle.group_types.specs.Text.{Text, text_cmp}
use Rattle.group_types.specs.Sets.{has}
use Rattle.group_types.specs.Topics.{Topics}
use Rattle.group_types.specs.Group.{Record, Group}
use Rattle.group_types.specs.Leave.{risen, without_member}
use Rattle.group_types.specs.Tick.{at_moment, due, expired, is_due, ticked, without_members}
use Rattle.group_types.specs.Commit.{Commit, CommitReply, CommitStep}
use Rattle.group_types.proofs.Entries.{entries_found}
use Rattle.group_types.proofs.GrantLemmas.{has-others}
use Rattle.group_types.proofs.Lookups.{Tie, ties, differs, tie, found_without}
use Rattle.world_sim.specs.Turn.{Seen, Pass}
use Rattle.world_sim.proofs.Verdicts.{remembers}

-- whoever stays as it is
pub same_passes : (g new : Group) → new.salt ≡ g.salt → new.serial ≡ g.serial → new.target_epoch ≡ g.target_epoch → new.records ≡ g.records → new.grants ≡ g.grants → new.past ≡ g.past → Pass g new
same_passes g new salt serial target_epoch records grants past =
    record {
      salt = salt;
      serial = subst (λ x. g.serial ≤ x) (sym serial) (le_refl g.serial);
      target_epoch = subst (λ x. g.target_epoch ≤ x) (sym target_epoch) (le_refl g.target_epoch);
      kept = λ m r there. record { before = ap (λ x. finite.get x m) (sym records) ∙ there; holds = λ p. ap (λ x. has x (m, p)) grants };
      went = λ m s there. inr (subst (λ x. Contains x (m, s)) past there);
    }

-- one member after the other leaves: each has its record in the first group
leaving_passes : (first : Group) (ms : List (Text × Record)) (g : Group) → Pass first g → AllByRecursion (λ m. finite.get first.records m.0 ≡ Some m.1) ms → Pass first (without_members g ms)
leaving_passes first [] g pass were = pass
leaving_passes first (m ∷ ms) g pass were = leaving_passes first ms (without_member g m.0 m.1.stamp) next were.1
  where
    went : (k : Text) (s : Stamp) → Contains g.past (k, s) ⊎ ((m.0 ≡ k) × (m.1.stamp ≡ s)) → Seen first k s
    went k s (inl past) = pass.went k s past
    went k s (inr (same, stamped)) = inl (m.1, ap (finite.get first.records) (sym same) ∙ were.0, stamped)

    next : Pass first (without_member g m.0 m.1.stamp)
    next =
        record {
          salt = pass.salt;
          serial = pass.serial;
          target_epoch = pass.target_epoch;
          kept = λ k r there.
              let stays = found_without g.records m.0 k r there in
              let kept = pass.kept k r stays.0 in
              record { before = kept.before; holds = λ p. has-others g.grants m.0 k p ∙ ap (λ b. not b && has g.grants (k, p)) (apart k (tie m.0 k) stays.1) ∙ kept.holds p };
          went = λ k s there. went k s (remembers g.past m.0 k m.1.stamp s there);
        }
      where
        apart : (k : Text) → Tie m.0 k → (k ≡ m.0 → ⊥) → eq_by_cmp text_cmp m.0 k ≡ false
        apart k (ties same) other = absurd (other (sym same))
        apart k (differs _ is) other = is

all_filter : {X : Type 0} (P : X → Type 0) (test : X → Bool) (xs : List X) → AllByRecursion P xs → AllByRecursion P (filter test xs)
all_filter P test [] all = tt
all_filter P test (x ∷ xs) all =
    elim (test x) as (λ b. AllByRecursion P (cond b (x ∷ filter test xs) (filter test xs))) [
      | true ↦ (all.0, all_filter P test xs all.1)
      | false ↦ all_filter P test xs all.1
    ]

expired_passes : (first g : Group) (ms : List (Text × Record)) → Pass first g → Pass first (record g { epoch = risen g.epoch }) → AllByRecursion (λ m. finite.get first.records m.0 ≡ Some m.1) ms → Pass first (expired g ms)
expired_passes first g [] same rises were = same
expired_passes first g (m ∷ ms) same rises were = leaving_passes first (m ∷ ms) (record g { epoch = risen g.epoch }) rises were

pub ticked_passes : (g : Group) (moment : ℕ) → Pass g (ticked g moment)
ticked_passes g moment =
    let now : Group = at_moment g moment in
    expired_passes g now (due now) (same_passes g now refl refl refl refl refl refl)
    (same_passes g (record now { epoch = risen now.epoch }) refl refl refl refl refl refl)
    (all_filter _ (λ m. is_due now.clock m.1) (finite.entries g.records) (entries_found g.records))

pub committed_passes : (g : Group) (c : Commit) (image : Topics) (reply : CommitReply) (new : Group) → CommitStep g c image reply new → Pass g new
committed_passes g c image reply new step =
    let is = step.stores in
    same_passes g new (ap (λ (x : Group). x.salt) is) (ap (λ (x : Group). x.serial) is) (ap (λ (x : Group). x.target_epoch) is)
    (ap (λ (x : Group). x.records) is) (ap (λ (x : Group). x.grants) is) (ap (λ (x : Group). x.past) is)
