-- The steps of building a group, as the code takes them.
use Rattle.std.proofs.Common.{◌≡◌, ℕ, suc, List, ◌<◌, ◌≤◌, ◌++◌, ◌∷◌, [], Bool, true, false, Some, Result, Ok, Err, IsTrue, refl, sym, ap, subst, ◌∙◌}
use Rattle.std.specs.Prelude.{◌↔◌, MatchOption, if◌then◌else◌}
use Rattle.std.specs.Result.{IfOk, OnErr, OnOk}
use Rattle.std.specs.FinMap as finite
use Rattle.group_types.specs.declared.partition.Partition.{Partition}
use Rattle.group_types.specs.declared.stamp.Stamp.{Stamp}
use Rattle.group_types.specs.Images.{AreImageTopics}
use Rattle.group_types.specs.Limits.{GREATEST_EPOCH, MOST_MEMBERS}
use Rattle.group_types.specs.Text.{Text}
use Rattle.group_types.specs.Partition.{Partitions}
use Rattle.group_types.specs.Topics.{Topics}
use Rattle.group_types.specs.Group.{Record}
use Rattle.group_epochs.specs.Records.{RecordsState, members_in}
use Rattle.group_epochs.specs.Restored.{CanBePast, CanBeRestored}
use Rattle.group_reconcile.specs.Holders.{Held, Holders, is_grantable, pairs, with_grant}
use Rattle.range_assign.specs.Shares.{AreShares, spread_of}
use Rattle.group_target.specs.TargetState.{TargetState}
use Rattle.group_core.specs.declared.restoring.GroupNumbers.{GroupNumbers}
use Rattle.group_core.specs.declared.state.State.{State}
use Rattle.group_core.specs.Group.{GroupValue}
use Rattle.group_core.specs.GroupView.{group_of}
use Rattle.group_core.specs.Restoring.{CanBeFinished, CanBeGranted, CanBeMember, IsRestoring, MembersFit, OwnersFit, changed_if, finished, with_granted, with_member, with_past}
use Rattle.group_core.proofs.Begun.{grant_fits, member_fits_in, past_fits}
use Rattle.group_core.proofs.Finishing.{can_be_finished}

-- a state as callers see it
abbrev pub value_of : State → GroupValue
value_of s = record { state = group_of s; holders = s.grants }

abbrev pub with_records : State → RecordsState → State
with_records s new = record s { records = new }

abbrev pub with_grants : State → Holders → State
with_grants s new = record s { grants = new }

abbrev held : Text → ℕ → Held
held m since = record { member = m; since = since }

module _ {E : Type 0} where
  -- what a step makes of the group is one of which more may come
  pub restoring_after : (r : Result Bool E) (old new more : GroupValue) → IsRestoring old.state → IfOk r (λ b. new ≡ changed_if b more old) → OnErr r (new ≡ old)
      → IfOk r (λ b. IsTrue b → IsRestoring more.state) → IsRestoring new.state
  restoring_after (Ok true) old new more is added err fits = subst (λ (v : GroupValue). IsRestoring v.state) (sym added) (fits refl)
  restoring_after (Ok false) old new more is added err fits = subst (λ (v : GroupValue). IsRestoring v.state) (sym added) is
  restoring_after (Err e) old new more is added err fits = subst (λ (v : GroupValue). IsRestoring v.state) (sym err) is

  -- the former group is what callers see of it
  pub added_to : (r : Result Bool E) (old seen new : GroupValue) (more : GroupValue → GroupValue) → old ≡ seen → IfOk r (λ b. new ≡ changed_if b (more old) old) → IfOk r (λ b. new ≡ changed_if b (more seen) seen)
  added_to r old seen new more is added = subst (λ (v : GroupValue). IfOk r (λ b. new ≡ changed_if b (more v) v)) is added

  pub same_as : (r : Result Bool E) (old seen new : GroupValue) → old ≡ seen → OnErr r (new ≡ old) → OnErr r (new ≡ seen)
  same_as r old seen new is err = subst (λ (v : GroupValue). OnErr r (new ≡ v)) is err

  module _ (s : State) (new : RecordsState) where
    -- ---- former members

    module _ (m : Text) (stamp : Stamp) where
      pub past_added : (r : Result Bool E) → new.records ≡ s.records.records → IfOk r (λ b. new.past ≡ (if b then s.records.past ++ (m, stamp) ∷ [] else s.records.past))
          → IfOk r (λ b. value_of (with_records s new) ≡ changed_if b (with_past (value_of s) m stamp) (value_of s))
      past_added (Ok true) same past = λ i. record { state = record (group_of s) { records = same i; past = past i }; holders = s.grants }
      past_added (Ok false) same past = λ i. record { state = record (group_of s) { records = same i; past = past i }; holders = s.grants }
      past_added (Err e) same past = tt

      pub past_may : (r : Result Bool E) → IsRestoring (group_of s) → IfOk r (λ b. IsTrue b ↔ CanBePast (members_in s.records) m) → IfOk r (λ b. IsTrue b → IsRestoring (with_past (value_of s) m stamp).state)
      past_may (Ok b) is can = λ so. past_fits (group_of s) m stamp is (can.0 so)
      past_may (Err e) is can = tt

    pub past_unchanged : (r : Result Bool E) → new.records ≡ s.records.records → OnErr r (new.past ≡ s.records.past) → OnErr r (value_of (with_records s new) ≡ value_of s)
    past_unchanged (Ok b) same past = tt
    past_unchanged (Err e) same past = λ i. record { state = record (group_of s) { records = same i; past = past i }; holders = s.grants }

    -- ---- members

    module _ (m : Text) (kept : Record) where
      pub member_added : (r : Result Bool E) → new.past ≡ s.records.past → IfOk r (λ b. new.records ≡ (if b then finite.insert s.records.records m kept else s.records.records))
          → IfOk r (λ b. value_of (with_records s new) ≡ changed_if b (with_member (value_of s) m kept) (value_of s))
      member_added (Ok true) same records = λ i. record { state = record (group_of s) { records = records i; past = same i }; holders = s.grants }
      member_added (Ok false) same records = λ i. record { state = record (group_of s) { records = records i; past = same i }; holders = s.grants }
      member_added (Err e) same records = tt

      pub member_may : (r : Result Bool E) → IsRestoring (group_of s) → IfOk r (λ b. IsTrue b ↔ CanBeMember (group_of s) m kept) → IfOk r (λ b. IsTrue b → IsRestoring (with_member (value_of s) m kept).state)
      member_may (Ok b) is can = λ so. member_fits_in (group_of s) m kept is (can.0 so)
      member_may (Err e) is can = tt

    pub member_can : (m : Text) (kept : Record) (r : Result Bool E) → finite.len s.records.records < MOST_MEMBERS → IfOk r (λ b. IsTrue b ↔ CanBeRestored (members_in s.records) m kept)
        → IfOk r (λ b. IsTrue b ↔ CanBeMember (group_of s) m kept)
    member_can m kept (Ok b) few can = (λ so. record { restored = can.0 so; few = few }, λ it. can.1 it.restored)
    member_can m kept (Err e) few can = tt

    pub member_unchanged : (r : Result Bool E) → new.past ≡ s.records.past → OnErr r (new.records ≡ s.records.records) → OnErr r (value_of (with_records s new) ≡ value_of s)
    member_unchanged (Ok b) same records = tt
    member_unchanged (Err e) same records = λ i. record { state = record (group_of s) { records = records i; past = same i }; holders = s.grants }

  -- ---- grants

  module _ (s : State) (new : Holders) (m : Text) (p : Partition) (since : ℕ) where
    pub grant_added : (r : Result Bool E) → IfOk r (λ b. b ≡ is_grantable s.grants p) → OnOk r (new ≡ with_grant s.grants p (held m since))
        → IfOk r (λ b. value_of (with_grants s new) ≡ changed_if b (with_granted (value_of s) m p since) (value_of s))
    grant_added (Ok true) is changed =
        let path : new ≡ finite.insert s.grants p (held m since) = changed ∙ ap (λ b. if b then finite.insert s.grants p (held m since) else s.grants) (sym is) in
        λ i. record { state = record (group_of s) { grants = pairs (path i) }; holders = path i }
    grant_added (Ok false) is changed =
        let path : new ≡ s.grants = changed ∙ ap (λ b. if b then finite.insert s.grants p (held m since) else s.grants) (sym is) in
        λ i. record { state = record (group_of s) { grants = pairs (path i) }; holders = path i }
    grant_added (Err e) is changed = tt

    pub grant_may : (r : Result Bool E) → IsRestoring (group_of s) → IsTrue (finite.contains_key s.records.records m) → IfOk r (λ b. IsTrue b → IsRestoring (with_granted (value_of s) m p since).state)
    grant_may (Ok b) is there = λ _. grant_fits s.grants m p since (group_of s) refl is there
    grant_may (Err e) is there = tt

    pub grant_can : (r : Result Bool E) → IsTrue (finite.contains_key s.records.records m) → IfOk r (λ b. b ≡ is_grantable s.grants p) → IfOk r (λ b. IsTrue b ↔ CanBeGranted (value_of s) m p)
    grant_can (Ok b) there is = (λ so. record { member = there; grantable = sym is ∙ so }, λ can. is ∙ can.grantable)
    grant_can (Err e) there is = tt

    pub grants_unchanged : (r : Result Bool E) → OnErr r (new ≡ s.grants) → OnErr r (value_of (with_grants s new) ≡ value_of s)
    grants_unchanged (Ok b) same = tt
    grants_unchanged (Err e) same = λ i. record { state = record (group_of s) { grants = pairs (same i) }; holders = same i }

-- ---- the end

-- the state with all that comes in the end is the finished group
pub state_finished : (s : State) (t : TargetState) (n : GroupNumbers) (shares : List (Text × Partitions)) (view : Topics) → t.owners ≡ spread_of shares → t.epoch ≡ n.target_epoch
    → group_of (record s { epoch = n.epoch; target = t; view = view; clock = n.clock; ids_made = n.ids_made }) ≡ finished (group_of s) n shares view
state_finished s t n shares view owners epoch =
    λ i. record (group_of s) {
      epoch = n.epoch;
      target_epoch = epoch i;
      target = owners i;
      view = view;
      clock = n.clock;
      serial = suc n.ids_made;
    }

-- what is looked at in the end is enough for the state with all that comes then
pub finished_by : (s : State) (t : TargetState) (n : GroupNumbers) (shares : List (Text × Partitions)) (view : Topics) → IsRestoring (group_of s) → AreImageTopics view → n.epoch ≤ GREATEST_EPOCH
    → OwnersFit s.records.records view shares → MatchOption (Some t) (¬ AreShares shares) (λ t. AreShares shares × (t.owners ≡ spread_of shares) × (t.epoch ≡ n.target_epoch)) → n.target_epoch ≤ n.epoch
    → MembersFit (group_of (record s { epoch = n.epoch; target = t; view = view; clock = n.clock; ids_made = n.ids_made }))
    → CanBeFinished (group_of s) n shares view × (group_of (record s { epoch = n.epoch; target = t; view = view; clock = n.clock; ids_made = n.ids_made }) ≡ finished (group_of s) n shares view)
finished_by s t n shares view is are greatest owners made below members =
    let path = state_finished s t n shares view made.1 made.2 in
    (can_be_finished (group_of s) s.grants n shares view is refl are greatest owners made.0 below (subst MembersFit path members), path)
