-- What keeps the marks of steady members true.
use Rattle.std.proofs.Common.{◌≡◌, ◌≢◌, ℕ, ◌≤◌, Bool, true, false, cond, not, ◌&&◌, ◌||◌, Option, Some, None, MatchOption, unwrap_or, refl, sym, ap, ◌∙◌, arith, max}
use Rattle.std.specs.Option.{option_map_or}
use Rattle.std.specs.Str.{bytes_eq}
use Rattle.std.specs.FinMap as finite
use Rattle.std.proofs.lemmas.Slice.Eq.{bytes_eq-Decides}
use Rattle.group_types.specs.declared.epoch.Epoch.TheVariants.{At}
use Rattle.group_types.specs.declared.stamp.Stamp.{Stamp}
use Rattle.group_types.specs.Text.{Text}
use Rattle.group_types.specs.Sets.{has}
use Rattle.group_types.specs.Partition.{Partitions}
use Rattle.group_types.specs.Topics.{Topics}
use Rattle.group_types.specs.Owners.{Spread, owns, without_owner}
use Rattle.group_types.specs.Group.{Grants, Offsets, Group, Record, held, wanted}
use Rattle.group_types.specs.Leave.{gone_away, left, risen, without_member}
use Rattle.group_types.specs.Settle.{grants_after, grants_of_others, is_free_for, moved}
use Rattle.group_types.specs.Renewal.{IsTarget}
use Rattle.group_types.specs.HeartbeatStep.{sent_after}
use Rattle.group_types.specs.Sound.{IsSound}
use Rattle.std.specs.Option.{IfSome}
use Rattle.group_types.proofs.GrantLemmas.{has-held, has-moved, has-others}
use Rattle.group_types.proofs.Lookups.{no_tie, not_none, get-insert_other, found_without}
use Rattle.group_types.proofs.Orders.{partition_cmp_total, partition_cmp-IsAntisymmetric, text_cmp_total}
use Rattle.group_types.proofs.SetLemmas.{same_set}
use Rattle.group_types.proofs.SpreadLemmas.{has-share_of}
use Rattle.group_target.specs.TargetState.{TargetState}
use Rattle.group_reconcile.specs.Holders.{pairs}
use Rattle.group_epochs.specs.Records.{Marks}
use Rattle.group_core.specs.declared.state.State.{State}
use Rattle.group_core.specs.declared.draft.Draft.{Draft as Drafted}
use Rattle.group_core.specs.declared.change.Renewal.{Renewal}
use Rattle.group_core.specs.GroupView.{group_of}
use Rattle.group_epochs.specs.Drafts.{IsHeirOf}
use Rattle.group_core.specs.Stages.{IsRenewalOf, carried, epoch_if, grants_then, group_then, heir_id, heir_in, moves, part_of, record_then, records_with, target_then}
use Rattle.group_core.specs.Steady.{AreMarked, IsSteady}
use Rattle.group_core.proofs.HandOvers.{heir_is_absent, marked_beside}

-- ---- what others hold

pub held_others : (b : Bool) (g : Grants) (m n : Text) (part : Partitions) → n ≢ m → held (grants_after b g m part) n ≡ held g n
held_others false g m n part other = refl
held_others true g m n part other =
    same_set partition_cmp_total partition_cmp-IsAntisymmetric _ _
    (λ q. has-held (moved g m part) n q ∙ has-moved g m part n q
    ∙ ap (λ b. cond b (has part q && (has g (m, q) || is_free_for g m q)) (has g (n, q))) (no_tie n m other) ∙ sym (has-held g n q))

held_left : (g : Grants) (m n : Text) → n ≢ m → held (grants_of_others g m) n ≡ held g n
held_left g m n other =
    same_set partition_cmp_total partition_cmp-IsAntisymmetric _ _
    (λ q. has-held (grants_of_others g m) n q ∙ has-others g m n q
    ∙ ap (λ b. not b && has g (n, q)) (no_tie m n (λ same. other (sym same))) ∙ sym (has-held g n q))

owner_left : (o : Option Text) (m n : Text) → n ≢ m → option_map_or (λ x. bytes_eq x n) (cond (not (option_map_or (λ x. bytes_eq x m) o false)) o None) false ≡ option_map_or (λ x. bytes_eq x n) o false
owner_left None m n other = refl
owner_left (Some x) m n other =
    elim (bytes_eq x m) as (λ b. bytes_eq x m ≡ b → option_map_or (λ x. bytes_eq x n) (cond (not b) (Some x) None) false ≡ bytes_eq x n) [
      | true ↦ λ same. sym (not_so (bytes_eq x n) (λ so. other (sym ((bytes_eq-Decides x n).0 so) ∙ (bytes_eq-Decides x m).0 same)))
      | false ↦ λ apart. refl
    ] refl
  where
    not_so : (b : Bool) → (b ≡ true → ⊥) → b ≡ false
    not_so true never = absurd (never refl)
    not_so false never = refl

wanted_left : (t : Spread) (m n : Text) → n ≢ m → wanted (without_owner t m) n ≡ wanted t n
wanted_left t m n other =
    same_set partition_cmp_total partition_cmp-IsAntisymmetric _ _
    (λ p. has-share_of (without_owner t m) n p
    ∙ ap (λ o. option_map_or (λ x. bytes_eq x n) o false) (finite.get-retain_keys t (λ q. not (owns t m q)) p (λ q same. ap (λ o. not (option_map_or (λ x. bytes_eq x m) o false)) (finite.get_tied partition_cmp_total t p q same)))
    ∙ owner_left (finite.get t p) m n other
    ∙ sym (has-share_of t n p))

-- ---- a leave

-- who is steady stays so at another group epoch, clock and offsets
pub marked_at : (g : Group) (marks : Marks) → AreMarked g marks → (epoch clock : ℕ) (offsets : Offsets) → AreMarked (record g { epoch = epoch; clock = clock; offsets = offsets }) marks
marked_at g marks are epoch clock offsets = λ n e is.
    let was = are n e is in (
      was.0,
      λ same.
          let steady = was.1 same in
          record {
            kept = steady.kept;
            is_kept = steady.is_kept;
            arrived = steady.arrived;
            unasked = steady.unasked;
            holds = steady.holds;
            sent = steady.sent;
          },
    )

-- and without a member
pub marked_without : (g : Group) (marks : Marks) → AreMarked g marks → (m : Text) (stamp : Stamp) → AreMarked (without_member g m stamp) (finite.remove marks m)
marked_without g marks are m stamp = λ n e is.
    let before = found_without marks m n e is in
    let was = are n e before.0 in (
      was.0,
      λ same.
          let steady = was.1 same in
          record {
            kept = steady.kept;
            is_kept = finite.get-remove text_cmp_total g.records m n ∙ ap (λ b. cond b None (finite.get g.records n)) (no_tie n m before.1) ∙ steady.is_kept;
            arrived = steady.arrived;
            unasked = steady.unasked;
            holds = held_left g.grants m n before.1 ∙ steady.holds ∙ sym (wanted_left g.target m n before.1);
            sent = steady.sent ∙ ap Some (sym (wanted_left g.target m n before.1));
          },
    )

pub marked_left : (g : Group) (marks : Marks) → AreMarked g marks → (m : Text) (stamp : Stamp) (moment : ℕ) → AreMarked (left g m stamp moment) (finite.remove marks m)
marked_left g marks are m stamp moment =
    marked_without (record g { epoch = risen g.epoch; clock = max g.clock moment }) marks (marked_at g marks are (risen g.epoch) (max g.clock moment) g.offsets) m stamp

-- ---- a member that goes away

pub marked_away : (g : Group) (marks : Marks) → AreMarked g marks → (m : Text) (r : Record) (stamp : Stamp) (moment : ℕ) → AreMarked (gone_away g m r stamp moment) (finite.remove marks m)
marked_away g marks are m r stamp moment = λ n e is.
    let before = found_without marks m n e is in
    let was = are n e before.0 in (
      was.0,
      λ same.
          let steady = was.1 same in
          record {
            kept = steady.kept;
            is_kept = get-insert_other g.records m _ n (no_tie n m before.1) ∙ steady.is_kept;
            arrived = steady.arrived;
            unasked = steady.unasked;
            holds = steady.holds;
            sent = steady.sent;
          },
    )

-- ---- a join or a beat

module _ (s : State) (sound : IsSound (group_of s)) (marks : AreMarked (group_of s) s.records.marks)
    (d : Drafted) (heir : IfSome (heir_id d) (IsHeirOf s.records.records d.member.id)) (now : ℕ) (image : Topics) (r : Renewal) (is : IsRenewalOf s d image r) (owned sent : Option Partitions) where
  -- all but the record
  abbrev Granted : Group
  Granted = record (carried s d now r) { grants = grants_then s d r owned }

  -- where the target stays, another member is as steady as it was
  other_steady : target_then s r ≡ s.target → (n : Text) → n ≢ d.member.id → IsSteady (group_of s) n → IsSteady Granted n
  other_steady stays n other steady =
      record {
        kept = steady.kept;
        is_kept = steady.is_kept;
        arrived = steady.arrived ∙ ap (λ (t : TargetState). At t.epoch) (sym stays);
        unasked = steady.unasked;
        holds = held_others (moves s d r owned) (pairs s.grants) d.member.id n (part_of s d r) other ∙ steady.holds ∙ ap (λ (t : TargetState). wanted t.owners n) (sym stays);
        sent = steady.sent ∙ ap (λ (t : TargetState). Some (wanted t.owners n)) (sym stays);
      }

  rises : epoch_if is.change s.epoch ≡ r.epoch → s.target.epoch ≤ r.epoch
  rises at = by is.change at
    where
      by : (change : Bool) → epoch_if change s.epoch ≡ r.epoch → s.target.epoch ≤ r.epoch
      by true at = let most : s.target.epoch ≤ s.epoch = sound.target_epoch in omega (arith, most, at)
      by false at = let most : s.target.epoch ≤ s.epoch = sound.target_epoch in omega (arith, most, at)

  pub marked_then : (new : Marks) → ((n : Text) (e : ℕ) → finite.get new n ≡ Some e → (finite.get s.records.marks n ≡ Some e) × (n ≡ d.member.id → finite.get s.records.records d.member.id ≡ None))
      → AreMarked (group_then s d now r owned sent) new
  marked_then new keeps =
      marked_beside Granted d.member.id (sent_after (record_then s d r owned now) sent) (heir_in s d) (heir_is_absent s.records.records d.member.id (finite.get s.records.records d.member.id) (heir_id d) heir) new
      (λ n e there. by n e (keeps n e there) r.target refl is.target)
    where
      by : (n : Text) (e : ℕ) → (finite.get s.records.marks n ≡ Some e) × (n ≡ d.member.id → finite.get s.records.records d.member.id ≡ None)
          → (o : Option TargetState) → r.target ≡ o
          → MatchOption o (r.epoch ≡ s.target.epoch) (λ (t : TargetState). (¬ (r.epoch ≡ s.target.epoch)) × (t.epoch ≡ r.epoch) × IsTarget (records_with s d) r.view s.target.owners t.owners)
          → (e ≤ (target_then s r).epoch) × (e ≡ (target_then s r).epoch → (n ≢ d.member.id) × IsSteady Granted n)
      by n e (was, fresh) None none same =
          let stays : target_then s r ≡ s.target = ap (λ o. unwrap_or o s.target) none in
          let before = marks n e was in
          let epoch : (target_then s r).epoch ≡ s.target.epoch = ap (λ (t : TargetState). t.epoch) stays in (
            let low = before.0 in omega (arith, low, epoch),
            λ so.
                let steady = before.1 (so ∙ epoch) in
                let other : n ≢ d.member.id = λ it. not_none steady.kept (sym (fresh it) ∙ ap (finite.get s.records.records) (sym it) ∙ steady.is_kept) in
                (other, other_steady stays n other steady),
          )
      by n e (was, fresh) (Some t) some (apart, at, target) =
          let epoch : (target_then s r).epoch ≡ r.epoch = ap (λ o. (unwrap_or o s.target).epoch) some ∙ at in
          let before = marks n e was in
          let low = before.0 in
          let high = rises (sym is.epoch) in
          (omega (arith, low, high, epoch), λ so. absurd (apart (omega (arith, low, high, epoch, so))))
