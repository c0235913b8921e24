-- What keeps a group consistent: members that leave, that go away, ticks and commits.
use Rattle.std.proofs.Common.{◌≡◌, ◌≢◌, ℕ, ◌≤◌, ◌<◌, ◌+◌, ◌-◌, Bool, true, false, cond, not, ◌&&◌, nat_lt, if◌then◌else◌, List, [], ◌∷◌, Option, Some, None, IsTrue, refl, sym, ap, subst, ◌∙◌, arith, true≢false, max}
use Rattle.std.specs.Option.{option_map_or}
use Rattle.std.specs.Str.{bytes_eq}
use Rattle.std.specs.List.{AllByRecursion, filter}
use Rattle.std.specs.Ordering.{eq_by_cmp}
use Rattle.std.specs.FinMap as finite
use Rattle.std.specs.FinMap.Entries.{below_all, is_sorted}
use lib.Dec.{T}
use Rattle.std.proofs.lemmas.Bool.Decides.{Decides-ltb}
use Rattle.std.proofs.lemmas.Slice.Eq.{bytes_eq-Decides}
use Rattle.group_types.specs.Limits.{GREATEST_EPOCH, MOST_MEMBERS}
use Rattle.group_types.specs.declared.partition.Partition.{Partition}
use Rattle.group_types.specs.declared.stamp.Stamp.{Stamp}
use Rattle.group_types.specs.Text.{Text, text_cmp}
use Rattle.group_types.specs.Sets.{has}
use Rattle.group_types.specs.Topics.{Topics}
use Rattle.group_types.specs.Owners.{Spread, owns, without_owner}
use Rattle.group_types.specs.Group.{Record, Records, Grants, Offsets, Group}
use Rattle.group_types.specs.Settle.{grants_of_others}
use Rattle.group_types.specs.Leave.{risen, without_member, left, away, gone_away}
use Rattle.group_types.specs.Commit.{Commit, CommitReply, CommitStep, offsets_after, refusal_of_commit}
use Rattle.group_types.specs.Tick.{at_moment, due, expired, is_due, ticked, without_members}
use Rattle.group_types.proofs.Consistent.{IsConsistent}
use Rattle.group_types.proofs.Orders.{partition_cmp_total, text_cmp_total}
use Rattle.group_types.proofs.Entries.{below_differs, entries_found, first_part, second_part}
use Rattle.group_types.proofs.GrantLemmas.{has-others}
use Rattle.group_types.proofs.Lookups.{Tie, ties, differs, tie, text_ties, some_is, not_none, found_without, none_without, removed_is_none, has_other}
use Rattle.group_types.proofs.Stored.{fit_as_before, kept_is_consistent}
use Rattle.group_types.proofs.PastLemmas.{not_past, past_of_fewer, past_remembering, few_remembered}

-- ---- the target and the grants without a member

without : (o : Option Text) (m a : Text) → cond (not (option_map_or (λ owner. bytes_eq owner m) o false)) o None ≡ Some a → (o ≡ Some a) × (a ≢ m)
without None m a is = absurd (not_none a is)
without (Some x) m a is =
    elim (bytes_eq x m) as (λ b. bytes_eq x m ≡ b → cond (not b) (Some x) None ≡ Some a → (Some x ≡ Some a) × (a ≢ m)) [
      | true ↦ λ same none. absurd (not_none a none)
      | false ↦ λ other there. (there, λ is_m. true≢false (sym ((bytes_eq-Decides x m).1 (some_is x a there ∙ is_m)) ∙ other))
    ] refl is

get-without : (t : Spread) (m : Text) (p : Partition) → finite.get (without_owner t m) p ≡ cond (not (option_map_or (λ owner. bytes_eq owner m) (finite.get t p) false)) (finite.get t p) None
get-without t m p =
    finite.get-retain_keys t (λ q. not (owns t m q)) p (λ q same. ap (λ o. not (option_map_or (λ owner. bytes_eq owner m) o false)) (finite.get_tied partition_cmp_total t p q same))

-- who owns a partition still is another, and owned it before
found_owner : (t : Spread) (m a : Text) (p : Partition) → finite.get (without_owner t m) p ≡ Some a → (finite.get t p ≡ Some a) × (a ≢ m)
found_owner t m a p is = without (finite.get t p) m a (sym (get-without t m p) ∙ is)

other_owner : (o : Option Text) (m a : Text) → o ≡ Some a → a ≢ m → cond (not (option_map_or (λ owner. bytes_eq owner m) o false)) o None ≡ Some a
other_owner None m a is other = absurd (not_none a is)
other_owner (Some x) m a is other =
    elim (bytes_eq x m) as (λ b. bytes_eq x m ≡ b → cond (not b) (Some x) None ≡ Some a) [
      | true ↦ λ same. absurd (other (sym (some_is x a is) ∙ (bytes_eq-Decides x m).0 same))
      | false ↦ λ differ. is
    ] refl

kept_owner : (t : Spread) (m a : Text) (p : Partition) → finite.get t p ≡ Some a → a ≢ m → finite.get (without_owner t m) p ≡ Some a
kept_owner t m a p is other = get-without t m p ∙ other_owner (finite.get t p) m a is other

-- who holds a partition still is another, and held it before
pub still_holds : (grants : Grants) (m a : Text) (p : Partition) → IsTrue (has (grants_of_others grants m) (a, p)) → IsTrue (has grants (a, p)) × (a ≢ m)
still_holds grants m a p there = by (tie m a)
  where
    answer : (not (eq_by_cmp text_cmp m a) && has grants (a, p)) ≡ true
    answer = sym (has-others grants m a p) ∙ there

    by : Tie m a → IsTrue (has grants (a, p)) × (a ≢ m)
    by (ties same) = absurd (true≢false (sym answer ∙ ap (λ b. not b && has grants (a, p)) (ap (eq_by_cmp text_cmp m) (sym same) ∙ text_ties m)))
    by (differs other apart) = (sym (ap (λ b. not b && has grants (a, p)) apart) ∙ answer, λ is. other (sym is))

-- ---- the group epoch

risen_bounds : (epoch : ℕ) → epoch ≤ GREATEST_EPOCH → (epoch ≤ risen epoch) × (risen epoch ≤ GREATEST_EPOCH)
risen_bounds epoch most =
    elim (nat_lt epoch GREATEST_EPOCH) as (λ b. nat_lt epoch GREATEST_EPOCH ≡ b → (epoch ≤ (if b then epoch + 1 else epoch)) × ((if b then epoch + 1 else epoch) ≤ GREATEST_EPOCH)) [
      | true ↦ λ is. let less : epoch < GREATEST_EPOCH = (Decides-ltb epoch GREATEST_EPOCH).0 is in (omega arith, omega arith)
      | false ↦ λ is. (omega arith, most)
    ] refl

-- at another epoch, clock and offsets
sound_with : (g : Group) (epoch clock : ℕ) (offsets : Offsets) → IsConsistent g → g.target_epoch ≤ epoch → epoch ≤ GREATEST_EPOCH
    → IsConsistent (record g { epoch = epoch; clock = clock; offsets = offsets })
sound_with g epoch clock offsets sound above most =
    record {
      one_holder = sound.one_holder;
      holders = sound.holders;
      owners = sound.owners;
      owned = sound.owned;
      epochs = sound.epochs;
      settled = sound.settled;
      target_epoch = above;
      epoch = most;
      instances = sound.instances;
      named = sound.named;
      past = sound.past;
      few_members = sound.few_members;
      few_past = sound.few_past;
    }

pub risen_is_consistent : (g : Group) → IsConsistent g → IsConsistent (record g { epoch = risen g.epoch })
risen_is_consistent g sound =
    let bounds = risen_bounds g.epoch sound.epoch in
    sound_with g (risen g.epoch) g.clock g.offsets sound (omega (arith, bounds.0, sound.target_epoch)) bounds.1

pub clocked_is_consistent : (g : Group) (now : ℕ) → IsConsistent g → IsConsistent (record g { clock = now })
clocked_is_consistent g now sound = sound_with g g.epoch now g.offsets sound sound.target_epoch sound.epoch

-- after a commit
pub committed_is_consistent : (g : Group) (c : Commit) (image : Topics) (reply : CommitReply) (new : Group) → CommitStep g c image reply new → IsConsistent g → IsConsistent new
committed_is_consistent g c image reply new step sound =
    let offsets = offsets_after (refusal_of_commit g.records c.member c.epoch) g.offsets c image in
    subst IsConsistent (sym step.stores) (sound_with g g.epoch g.clock offsets sound sound.target_epoch sound.epoch)

-- ---- a member leaves

fewer : (b : Bool) (n : ℕ) → n ≤ MOST_MEMBERS → cond b (n - 1) n ≤ MOST_MEMBERS
fewer true n few = omega arith
fewer false n few = few

module _ (g : Group) (sound : IsConsistent g) (m : Text) (r : Record) (kept : finite.get g.records m ≡ Some r) (stamp : Stamp) where
  abbrev After : Group
  After = without_member g m stamp

  has_id : m ≢ []
  has_id is = not_none r (sym sound.named ∙ ap (finite.get g.records) (sym is) ∙ kept)

  pub leaving_is_consistent : IsConsistent After
  leaving_is_consistent =
      record {
        one_holder = λ a b p one other. sound.one_holder a b p (still_holds g.grants m a p one).0 (still_holds g.grants m b p other).0;
        holders = λ a p holds.
            let before = still_holds g.grants m a p holds in
            has_other g.records m a before.1 (sound.holders a p before.0);
        owners = λ a p owns.
            let before = found_owner g.target m a p owns in
            has_other g.records m a before.1 (sound.owners a p before.0);
        owned = λ a p owns. sound.owned a p (found_owner g.target m a p owns).0;
        epochs = λ a s there. sound.epochs a s (found_without g.records m a s there).0;
        settled = λ a s p there same holds.
            let before = found_without g.records m a s there in
            kept_owner g.target m a p (sound.settled a s p before.0 same (still_holds g.grants m a p holds).0) before.1;
        target_epoch = sound.target_epoch;
        epoch = sound.epoch;
        instances = λ a b s t i one other. sound.instances a b s t i (found_without g.records m a s one).0 (found_without g.records m b t other).0;
        named = none_without g.records m [] sound.named;
        past = past_remembering (finite.remove g.records m) g.past m stamp
            (past_of_fewer g.records (finite.remove g.records m) g.past (none_without g.records m) sound.past)
            (removed_is_none g.records m) has_id (not_past g.records g.past m r sound.past kept);
        few_members = subst (λ n. n ≤ MOST_MEMBERS) (sym (finite.len-remove text_cmp_total g.records m)) (fewer (finite.contains_key g.records m) (finite.len g.records) sound.few_members);
        few_past = few_remembered g.past m stamp;
      }

-- at member epoch -1
pub left_is_consistent : (g : Group) → IsConsistent g → (m : Text) (r : Record) → finite.get g.records m ≡ Some r → (stamp : Stamp) (moment : ℕ) → IsConsistent (left g m stamp moment)
left_is_consistent g sound m r kept stamp moment =
    let clocked : Group = record g { clock = max g.clock moment } in
    let rises : Group = record clocked { epoch = risen g.epoch } in
    leaving_is_consistent rises (risen_is_consistent clocked (clocked_is_consistent g (max g.clock moment) sound)) m r kept stamp

-- ---- a member goes away for a while

-- at member epoch -2
pub gone_away_is_consistent : (g : Group) → IsConsistent g → (m : Text) (r : Record) → finite.get g.records m ≡ Some r → (stamp : Stamp) (moment : ℕ) → IsConsistent (gone_away g m r stamp moment)
gone_away_is_consistent g sound m r kept stamp moment =
    let now = max g.clock moment in
    let clocked : Group = record g { clock = now } in
    let is_sound = clocked_is_consistent g now sound in
    kept_is_consistent clocked is_sound m (away r stamp now) (fit_as_before clocked is_sound m r (away r stamp now) kept refl refl) r kept

-- ---- a tick

-- the key is none of theirs
abbrev pub Differ : Text → List (Text × Record) → Type 0
Differ k [] = Unit {0}
Differ k (e ∷ es) = (e.0 ≢ k) × Differ k es

-- each has its record, and no id stands twice
abbrev pub Leaves : Records → List (Text × Record) → Type 0
Leaves records [] = Unit {0}
Leaves records (e ∷ es) = (finite.get records e.0 ≡ Some e.1) × Differ e.0 es × Leaves records es

module _ (test : Text × Record → Bool) where
  differ_of_below : (k : Text) (es : List (Text × Record)) → T (below_all text_cmp k es) → Differ k (filter test es)
  differ_of_below k [] below = tt
  differ_of_below k (e ∷ es) below =
      elim (test e) as (λ b. Differ k (cond b (e ∷ filter test es) (filter test es))) [
        | true ↦ (below_differs k e.0 (first_part _ _ below), differ_of_below k es (second_part _ _ below))
        | false ↦ differ_of_below k es (second_part _ _ below)
      ]

  -- those of the sorted entries that pass
  pub leaves_of_sorted : (records : Records) (es : List (Text × Record)) → T (is_sorted text_cmp es) → AllByRecursion (λ e. finite.get records e.0 ≡ Some e.1) es
      → Leaves records (filter test es)
  leaves_of_sorted records [] sorted there = tt
  leaves_of_sorted records (e ∷ es) sorted there =
      let rest : Leaves records (filter test es) = leaves_of_sorted records es (second_part _ _ sorted) there.1 in
      elim (test e) as (λ b. Leaves records (cond b (e ∷ filter test es) (filter test es))) [
        | true ↦ (there.0, differ_of_below e.0 es (first_part _ _ sorted), rest)
        | false ↦ rest
      ]

pub leaves_after : (records : Records) (k : Text) (es : List (Text × Record)) → Differ k es → Leaves records es → Leaves (finite.remove records k) es
leaves_after records k [] differ leaves = tt
leaves_after records k (e ∷ es) differ leaves = (
  by (tie e.0 k),
  leaves.1,
  leaves_after records k es differ.1 leaves.2,
)
  where
    by : Tie e.0 k → finite.get (finite.remove records k) e.0 ≡ Some e.1
    by (ties same) = absurd (differ.0 same)
    by (differs other apart) =
        finite.get-remove text_cmp_total records k e.0 ∙ ap (λ b. cond b None (finite.get records e.0)) apart ∙ leaves.0

-- one after the other
leaving_all_is_consistent : (ms : List (Text × Record)) (g : Group) → IsConsistent g → Leaves g.records ms → IsConsistent (without_members g ms)
leaving_all_is_consistent [] g sound leaves = sound
leaving_all_is_consistent (m ∷ ms) g sound leaves =
    leaving_all_is_consistent ms (without_member g m.0 m.1.stamp) (leaving_is_consistent g sound m.0 m.1 leaves.0 m.1.stamp) (leaves_after g.records m.0 ms leaves.1 leaves.2)

expired_is_consistent : (ms : List (Text × Record)) (g : Group) → IsConsistent g → Leaves g.records ms → IsConsistent (expired g ms)
expired_is_consistent [] g sound leaves = sound
expired_is_consistent (m ∷ ms) g sound leaves =
    leaving_all_is_consistent (m ∷ ms) (record g { epoch = risen g.epoch }) (risen_is_consistent g sound) leaves

pub ticked_is_consistent : (g : Group) → IsConsistent g → (moment : ℕ) → IsConsistent (ticked g moment)
ticked_is_consistent g sound moment =
    let now : Group = at_moment g moment in
    expired_is_consistent (due now) now (clocked_is_consistent g (max g.clock moment) sound)
    (leaves_of_sorted (λ m. is_due now.clock m.1) g.records (finite.entries g.records) (finite.entries_sorted g.records) (entries_found g.records))
