-- The target follows the members.
use Rattle.std.proofs.Common.{◌≡◌, ◌≢◌, ◌⊎◌, inl, inr, ℕ, suc, ◌<◌, ◌≤◌, ◌+◌, ◌==◌, Bool, true, false, cond, ◌&&◌, nat_le, nat_lt, max, List, [], ◌∷◌, Option, Some, None, refl, sym, ap, subst, ◌∙◌, arith, true≢false}
use Rattle.std.specs.Option.{MatchOption}
use Rattle.std.specs.FinMap as finite
use Rattle.std.proofs.lemmas.Bool.Decides.{Decides-eqb, Decides-ltb}
use Rattle.group_types.specs.declared.code.Code.TheVariants as codes
use Rattle.group_types.specs.Limits.{GREATEST_EPOCH}
use Rattle.group_types.specs.Text.{Text, text_cmp}
use Rattle.group_types.specs.Partition.{partition_cmp}
use Rattle.group_types.specs.Topics.{Topics}
use Rattle.group_types.specs.Request.{reported}
use Rattle.group_types.specs.Owners.{renamed_id}
use Rattle.group_types.specs.Group.{Record, Records, Target, Group, starting_group, wanted}
use Rattle.group_types.specs.Settle.{may_settle, settled, settled_by, settled_record}
use Rattle.group_types.specs.Renewal.{IsChange, RenewsWhere, changed_if, view_for}
use Rattle.group_types.specs.Leave.{away, risen, without_member}
use Rattle.group_types.specs.Tick.{at_moment, due, expired, without_members}
use Rattle.group_types.specs.Checks.{Member, Refused, Accepted}
use Rattle.group_types.specs.HeartbeatStep as machine
use Rattle.group_types.specs.HeartbeatStep.{Answer, Arrival, ByVerdict, Draft, HeartbeatStep, TakesIn, handed_over, sent_after}
use Rattle.group_types.specs.Sound.{IsSound}
use Rattle.group_types.specs.Laws.{GroupEvent, OfHeartbeat, OfTick, OfCommit, IsGroupRun, IsGroupStep}
use Rattle.group_types.specs.Targets.{AssignorsAreLawful, FollowsMembers, IsLawfulFor, Subscribes, TargetsFollowByLawfulAssignors}
use Rattle.group_types.proofs.Lookups.{Found, this, another, found, Tie, ties, differs, tie, get-inserted, get-insert_other, not_none, some_is}
use Rattle.group_types.proofs.SpreadLemmas.{get-renamed}
use Rattle.group_types.proofs.TakeOvers.{renamed_itself, renamed_other}
use Rattle.group_types.proofs.Consistent.{IsConsistent, consistent}
use Rattle.group_types.proofs.Runs.{starting_is_sound, step_is_sound}
use Rattle.group_types.proofs.Checked.{unavailable_is}
use Rattle.group_types.proofs.Shown.{never_negative}
use Rattle.group_types.proofs.Accepted.{Came, unchanged, has_left, went_away, taken_in, came, nobody, Drafting, Fails, Made, of_beat, of_rejoin, of_newcomer, of_heir, refusal_fails}
use Rattle.group_types.proofs.Afterwards.{handed_to_heir}
use Rattle.group_types.proofs.ViewsFor.{view_for-insert}
use Rattle.group_types.proofs.LawfulTargets.{Renames, Settles, lawful_renamed, put, same_name, same_owners, sent_names, settled_names, settles_by, target_lawful}

-- below the greatest epoch a target that isn't to be renewed is lawful for the members
abbrev Follows : Group → Type 0
Follows g = g.epoch ≡ g.target_epoch → g.epoch < GREATEST_EPOCH → IsLawfulFor g.records g.view g.target

-- ---- what doesn't renew

-- another record of a member, with the same names
put_follows : (g : Group) (m : Text) (r s : Record) → finite.get g.records m ≡ Some r → s.names ≡ r.names
    → IsLawfulFor g.records g.view g.target → IsLawfulFor (finite.insert g.records m s) g.view g.target
put_follows g m r s there same lawful =
    lawful_renamed g.records (finite.insert g.records m s) same_name g.view g.target g.target (put g.records m r s there same) (same_owners g.target) lawful

-- where the epoch rises the target is to be renewed
risen_not : (epoch target_epoch : ℕ) → target_epoch ≤ epoch → risen epoch ≡ target_epoch → risen epoch < GREATEST_EPOCH → ⊥
risen_not epoch target_epoch most same below = by (nat_lt epoch GREATEST_EPOCH) refl same below
  where
    by : (b : Bool) → nat_lt epoch GREATEST_EPOCH ≡ b → cond b (epoch + 1) epoch ≡ target_epoch → cond b (epoch + 1) epoch < GREATEST_EPOCH → ⊥
    by true _ same below = omega (arith, same, most)
    by false so same below = true≢false (sym ((Decides-ltb epoch GREATEST_EPOCH).1 below) ∙ so)

left_epochs : (ms : List (Text × Record)) (g : Group) → ((without_members g ms).epoch ≡ g.epoch) × ((without_members g ms).target_epoch ≡ g.target_epoch)
left_epochs [] g = (refl, refl)
left_epochs (m ∷ ms) g = left_epochs ms (without_member g m.0 m.1.stamp)

expired_follows : (ms : List (Text × Record)) (g : Group) → g.target_epoch ≤ g.epoch → Follows g → Follows (expired g ms)
expired_follows [] g most follows = follows
expired_follows (m ∷ ms) g most follows =
    let epochs = left_epochs (m ∷ ms) (record g { epoch = risen g.epoch }) in
    λ same below. absurd (risen_not g.epoch g.target_epoch most (sym epochs.0 ∙ same ∙ epochs.1) (subst (λ e. e < GREATEST_EPOCH) epochs.0 below))

-- ---- a take-over

module _ (g : Group) (sound : IsConsistent g) (old : Member) (heir : Text) (s : Record) (was : finite.get g.records old.id ≡ Some old.kept)
    (absent : finite.get g.records heir ≡ None) (same : s.names ≡ old.kept.names) where
  abbrev Base : Group
  Base = handed_over g old heir

  apart : heir ≢ old.id
  apart is = not_none old.kept (sym absent ∙ ap (finite.get g.records) is ∙ was)

  handed_renames : Renames g.records (finite.insert Base.records heir s) (renamed_id old.id heir)
  handed_renames =
      let handed = handed_to_heir g sound old heir absent apart in
      record {
        forth = λ id r there. forth id r there (tie id old.id);
        back = λ id x there. back id x (found Base.records heir s id x there);
      }
    where
      forth : (id : Text) (r : Record) → finite.get g.records id ≡ Some r → Tie id old.id
          → (x : Record) × (finite.get (finite.insert Base.records heir s) (renamed_id old.id heir id) ≡ Some x) × (x.names ≡ r.names)
      forth id r there (ties is_old) = (
        s,
        ap (finite.get (finite.insert Base.records heir s)) (ap (renamed_id old.id heir) is_old ∙ renamed_itself old.id heir) ∙ get-inserted Base.records heir s,
        same ∙ ap (λ (x : Record). x.names) (some_is old.kept r (sym was ∙ ap (finite.get g.records) (sym is_old) ∙ there)),
      )
      forth id r there (differs other _) = by (tie id heir)
        where
          by : Tie id heir → (x : Record) × (finite.get (finite.insert Base.records heir s) (renamed_id old.id heir id) ≡ Some x) × (x.names ≡ r.names)
          by (ties is_heir) = absurd (not_none r (sym absent ∙ ap (finite.get g.records) (sym is_heir) ∙ there))
          by (differs not_heir no_tie) = (
            r,
            ap (finite.get (finite.insert Base.records heir s)) (renamed_other old.id heir id other)
                ∙ get-insert_other Base.records heir s id no_tie
                ∙ (handed_to_heir g sound old heir absent apart).others id not_heir other ∙ there,
            refl,
          )

      back : (id : Text) (x : Record) → Found Base.records heir s id x
          → (n : Text) × (r : Record) × (finite.get g.records n ≡ Some r) × (renamed_id old.id heir n ≡ id) × (x.names ≡ r.names)
      back id x (this is_heir is_s) = (old.id, old.kept, was, renamed_itself old.id heir ∙ sym is_heir, ap (λ (y : Record). y.names) is_s ∙ same)
      back id x (another not_heir _ there) = by (tie id old.id)
        where
          by : Tie id old.id → (n : Text) × (r : Record) × (finite.get g.records n ≡ Some r) × (renamed_id old.id heir n ≡ id) × (x.names ≡ r.names)
          by (ties is_old) =
              absurd (not_none x (sym (handed_to_heir g sound old heir absent apart).gone ∙ ap (finite.get Base.records) (sym is_old) ∙ there))
          by (differs other _) = (
            id,
            x,
            sym ((handed_to_heir g sound old heir absent apart).others id not_heir other) ∙ there,
            renamed_other old.id heir id other,
            refl,
          )

  handed_follows : IsLawfulFor g.records g.view g.target → IsLawfulFor (finite.insert Base.records heir s) g.view Base.target
  handed_follows lawful =
      lawful_renamed g.records (finite.insert Base.records heir s) (renamed_id old.id heir) g.view g.target Base.target handed_renames
      (λ p. get-renamed g.target old.id heir p) lawful

-- ---- what the stages of an accepted join or beat leave

module _ (g : Group) (a : Arrival) (answer : Answer) (new : Group) (d : Draft) (drafting : Drafting g a d) where
  abbrev View : Topics
  View = view_for a.image d.group.records

  -- the epoch of the group with its change on
  module _ (changed : Group) (records : changed.records ≡ d.group.records) (stages : machine.Stages changed d a.heartbeat answer new) where
    abbrev Renewed : Group
    Renewed = stages.renewed

    abbrev Offered : Group
    Offered = settled Renewed d.id (reported a.heartbeat) Renewed.clock

    settling : Settles Renewed Offered
    settling =
        settles_by (may_settle Renewed.grants d.id (wanted Renewed.target d.id) (reported a.heartbeat)) Renewed d.id (finite.get Renewed.records d.id) refl Renewed.clock

    abbrev Last : Record
    Last = sent_after stages.kept stages.told

    leaves : new ≡ record Offered { records = finite.insert Offered.records d.id Last }
    leaves = stages.leaves ∙ ap (λ (x : Group). record x { records = finite.insert x.records d.id Last }) stages.settles

    kept : finite.get Offered.records d.id ≡ Some stages.kept
    kept = ap (λ (x : Group). finite.get x.records d.id) (sym stages.settles) ∙ stages.is_kept

    renewed_records : (b : Bool) → RenewsWhere b changed Renewed → Renewed.records ≡ changed.records
    renewed_records true is = ap (λ (x : Group). x.records) is
    renewed_records false (target, is_target, is) = ap (λ (x : Group). x.records) is

    renewed_view : (b : Bool) → RenewsWhere b changed Renewed → Renewed.view ≡ changed.view
    renewed_view true is = ap (λ (x : Group). x.view) is
    renewed_view false (target, is_target, is) = ap (λ (x : Group). x.view) is

    renewed_epoch : (b : Bool) → RenewsWhere b changed Renewed → Renewed.epoch ≡ changed.epoch
    renewed_epoch true is = ap (λ (x : Group). x.epoch) is
    renewed_epoch false (target, is_target, is) = ap (λ (x : Group). x.epoch) is

    offered_epoch : (may : Bool) (h : Group) (m : Text) (o : Option Record) (now : ℕ) → (settled_by may h m o now).epoch ≡ h.epoch
    offered_epoch may h m None now = refl
    offered_epoch may h m (Some r) now = refl

    pub epoch_is : new.epoch ≡ changed.epoch
    epoch_is =
        ap (λ (x : Group). x.epoch) leaves ∙ offered_epoch _ Renewed d.id (finite.get Renewed.records d.id) Renewed.clock
        ∙ renewed_epoch (changed.epoch == changed.target_epoch) stages.renews

    -- the records subscribe what they did
    offered_view : (may : Bool) (h : Group) (m : Text) (o : Option Record) → finite.get h.records m ≡ o → (now : ℕ)
        → view_for a.image (settled_by may h m o now).records ≡ view_for a.image h.records
    offered_view may h m None is now = refl
    offered_view may h m (Some r) is now =
        view_for-insert a.image h.records m r (settled_record may r h.target_epoch now) is (settled_names may r h.target_epoch now)

    pub view_after : view_for a.image new.records ≡ View
    view_after =
        ap (λ (x : Group). view_for a.image x.records) leaves
        ∙ view_for-insert a.image Offered.records d.id stages.kept Last kept (sent_names stages.kept stages.told)
        ∙ offered_view _ Renewed d.id (finite.get Renewed.records d.id) refl Renewed.clock
        ∙ ap (view_for a.image) (renewed_records (changed.epoch == changed.target_epoch) stages.renews ∙ records)

    goes_on : changed.view ≡ View → IsLawfulFor Renewed.records Renewed.view Renewed.target → FollowsMembers a.image new
    goes_on is_view lawful =
        record {
          view =
              ap (λ (x : Group). x.view) leaves ∙ settling.view ∙ renewed_view (changed.epoch == changed.target_epoch) stages.renews ∙ is_view ∙ sym view_after;
          lawful = subst (λ (x : Group). IsLawfulFor x.records x.view x.target) (sym leaves) (put_follows Offered d.id stages.kept Last kept (sent_names stages.kept stages.told) here);
        }
      where
        here : IsLawfulFor Offered.records Offered.view Offered.target
        here =
            subst (λ (view : Topics). IsLawfulFor Offered.records view Offered.target) (sym settling.view)
            (lawful_renamed Renewed.records Offered.records same_name Renewed.view Renewed.target Offered.target settling.renames
            (λ p. ap (λ (t : Target). finite.get t p) settling.target ∙ same_owners Renewed.target p) lawful)

-- ---- an accepted join or beat

module _ (assignors : AssignorsAreLawful) (g : Group) (sound : IsSound g) (follows : Follows g) (a : Arrival) (answer : Answer) (new : Group)
    (d : Draft) (drafting : Drafting g a d) where
  abbrev TheView : Topics
  TheView = view_for a.image d.group.records

  -- a draft that is no change leaves the target lawful
  drafted : (before : Record) → d.before ≡ Some before → before.names ≡ d.after.names → d.group.epoch ≡ d.group.target_epoch → d.group.epoch < GREATEST_EPOCH
      → IsLawfulFor d.group.records g.view d.group.target
  drafted before is_before names same below = by drafting.made
    where
      lawful : IsLawfulFor g.records g.view g.target
      lawful = follows (sym drafting.ready.epoch ∙ same ∙ drafting.target_epoch) (subst (λ e. e < GREATEST_EPOCH) drafting.ready.epoch below)

      from : (base : Group) → drafting.base ≡ base → IsLawfulFor (finite.insert base.records d.id d.after) g.view base.target → IsLawfulFor d.group.records g.view d.group.target
      from base is holds =
          subst (λ (rs : Records). IsLawfulFor rs g.view d.group.target) (sym (drafting.records ∙ ap (λ (b : Group). finite.insert b.records d.id d.after) is))
          (subst (λ (t : Target). IsLawfulFor (finite.insert base.records d.id d.after) g.view t) (sym (drafting.target ∙ ap (λ (b : Group). b.target) is)) holds)

      own : (r : Record) → finite.get g.records d.id ≡ Some r → drafting.base ≡ g → d.before ≡ Some r → IsLawfulFor d.group.records g.view d.group.target
      own r there is was =
          from g is (put_follows g d.id r d.after there (sym names ∙ ap (λ (x : Record). x.names) (some_is before r (sym is_before ∙ was))) lawful)

      by : Made g drafting.base a (max g.clock a.moment) d → IsLawfulFor d.group.records g.view d.group.target
      by (of_beat n r epoch there is is_base was) = own r there is_base was
      by (of_rejoin r epoch there is is_base was) = own r there is_base was
      by (of_newcomer epoch absent is is_base was) = absurd (not_none before (sym was ∙ is_before))
      by (of_heir old i epoch absent there asks has is is_base was) =
          from (handed_over g old d.id) is_base
          (handed_follows g (consistent g sound) old d.id d.after there absent (sym names ∙ ap (λ (x : Record). x.names) (some_is before old.kept (sym is_before ∙ was))) lawful)

  renewed_lawful : (changed renewed : Group) → RenewsWhere false changed renewed → IsLawfulFor renewed.records renewed.view renewed.target
  renewed_lawful changed renewed (target, is_target, is) =
      subst (λ (x : Group). IsLawfulFor x.records x.view x.target) (sym is) (target_lawful assignors changed.records changed.view changed.target target is_target)

  abbrev Follows_on : Type 0
  Follows_on = new.epoch < GREATEST_EPOCH → FollowsMembers a.image new

  by_change : (change : Bool) → IsChange change d.before d.after g.view TheView → machine.Stages (changed_if change d.group TheView) d a.heartbeat answer new → Follows_on
  by_change true is stages below = by (suc d.group.epoch == d.group.target_epoch) refl stages.renews
    where
      changed : Group
      changed = record d.group { epoch = suc d.group.epoch; view = TheView }

      by : (b : Bool) → (suc d.group.epoch == d.group.target_epoch) ≡ b → RenewsWhere b changed stages.renewed → FollowsMembers a.image new
      by true same renews =
          let is_same : suc d.group.epoch ≡ d.group.target_epoch = (Decides-eqb (suc d.group.epoch) d.group.target_epoch).0 same in
          let most = drafting.ready.sound.target_epoch in
          absurd (omega (arith, is_same, most))
      by false other renews = goes_on g a answer new d drafting changed refl stages refl (renewed_lawful changed stages.renewed renews)
  by_change false is stages below = at d.before refl is
    where
      unchanged_view : (before : Record) → IsChange false (Some before) d.after g.view TheView → d.group.view ≡ TheView
      unchanged_view before is = drafting.view ∙ is.view

      at : (o : Option Record) → d.before ≡ o → IsChange false o d.after g.view TheView → FollowsMembers a.image new
      at None none never = absurd (true≢false (sym never))
      at (Some before) is_before is = by (d.group.epoch == d.group.target_epoch) refl stages.renews
        where
          by : (b : Bool) → (d.group.epoch == d.group.target_epoch) ≡ b → RenewsWhere b d.group stages.renewed → FollowsMembers a.image new
          by false other renews = goes_on g a answer new d drafting d.group refl stages (unchanged_view before is) (renewed_lawful d.group stages.renewed renews)
          by true same renews =
              goes_on g a answer new d drafting d.group refl stages (unchanged_view before is)
              (subst (λ (x : Group). IsLawfulFor x.records x.view x.target) (sym renews)
              (subst (λ (view : Topics). IsLawfulFor d.group.records view d.group.target) (sym drafting.view)
              (drafted before is_before is.names ((Decides-eqb d.group.epoch d.group.target_epoch).0 same)
              (subst (λ e. e < GREATEST_EPOCH) (epoch_is g a answer new d drafting d.group refl stages) below))))

  taken : TakesIn g d a.heartbeat a.image answer new → ((new ≡ g) × Fails answer) ⊎ Follows_on
  taken takes = by (takes.change && nat_le GREATEST_EPOCH g.epoch) takes.step
    where
      by : (b : Bool) → ByVerdict (cond b (Refused codes.CoordinatorNotAvailable) Accepted) (machine.Stages (changed_if takes.change d.group TheView) d a.heartbeat) g answer new
          → ((new ≡ g) × Fails answer) ⊎ Follows_on
      by true is = inl (is.1, refusal_fails answer codes.CoordinatorNotAvailable unavailable_is is.0)
      by false stages = inr (by_change takes.change takes.is_change stages)

-- ---- every step

module _ (assignors : AssignorsAreLawful) where
  heartbeat_follows : (g : Group) → IsSound g → Follows g → (a : Arrival) (answer : Answer) (new : Group) → HeartbeatStep g a answer new → Follows new
  heartbeat_follows g sound follows a answer new step = by (came g (consistent g sound) a answer new step)
    where
      by : Came g a answer new → Follows new
      by (unchanged same fails) = subst Follows (sym same) follows
      by (has_left r epoch there later answers is) = λ same below.
          absurd (risen_not g.epoch g.target_epoch sound.target_epoch
          (sym (ap (λ (x : Group). x.epoch) is) ∙ same ∙ ap (λ (x : Group). x.target_epoch) is)
          (subst (λ e. e < GREATEST_EPOCH) (ap (λ (x : Group). x.epoch) is) below))
      by (went_away r epoch there later answers is) =
          subst Follows (sym is)
          (λ same below. put_follows g a.heartbeat.member r (away r a.stamp (max g.clock a.moment)) there refl (follows same below))
      by (taken_in d drafting stages takes) = at (taken assignors g sound follows a answer new d drafting takes)
        where
          at : ((new ≡ g) × Fails answer) ⊎ (new.epoch < GREATEST_EPOCH → FollowsMembers a.image new) → Follows new
          at (inl (is, fails)) = subst Follows (sym is) follows
          at (inr goes) = λ same below. (goes below).lawful

  step_follows : (event : GroupEvent) (g new : Group) → IsGroupStep g event new → IsSound g → Follows g → Follows new
  step_follows (OfHeartbeat a answer) g new step sound follows = heartbeat_follows g sound follows a answer new step.1
  step_follows (OfTick moment) g new step sound follows =
      subst Follows (sym step) (expired_follows (due (at_moment g moment)) (at_moment g moment) sound.target_epoch follows)
  step_follows (OfCommit c image reply) g new step sound follows = subst Follows (sym step.stores) follows

  run_follows : (events : List GroupEvent) (g new : Group) → IsGroupRun g events new → IsSound g → Follows g → IsSound new × Follows new
  run_follows [] g new run sound follows = (subst IsSound (sym run) sound, subst Follows (sym run) follows)
  run_follows (event ∷ events) g new (next, step, run) sound follows =
      run_follows events next new run (step_is_sound event g next step sound) (step_follows event g next step sound follows)

nobody_yet : (salt epoch : ℕ) → Follows (starting_group salt epoch)
nobody_yet salt epoch same below p =
    subst (λ o. MatchOption o ((id : Text) → ¬ Subscribes finite.empty finite.empty p id) (Subscribes finite.empty finite.empty p))
    (sym (finite.get-empty partition_cmp p))
    (λ id (r, there, subscribed). not_none r (sym (finite.get-empty text_cmp id) ∙ there))

pub targets_follow_by_lawful_assignors : TargetsFollowByLawfulAssignors
targets_follow_by_lawful_assignors assignors salt epoch events g a m answer new n most run topics step is_epoch accepted below =
    let now = run_follows assignors events (starting_group salt epoch) g run (starting_is_sound salt epoch most) (nobody_yet salt epoch) in
    by now.0 now.1 (came g (consistent g now.0) a answer new step)
  where
    by : IsSound g → Follows g → Came g a answer new → FollowsMembers a.image new
    by sound follows (unchanged same fails) = absurd (nobody answer fails m accepted)
    by sound follows (has_left r leaves there later answers is) = absurd (never_negative a.heartbeat.epoch n 0 is_epoch leaves)
    by sound follows (went_away r goes there later answers is) = absurd (never_negative a.heartbeat.epoch n 1 is_epoch goes)
    by sound follows (taken_in d drafting stages takes) = at (taken assignors g sound follows a answer new d drafting takes)
      where
        at : ((new ≡ g) × Fails answer) ⊎ (new.epoch < GREATEST_EPOCH → FollowsMembers a.image new) → FollowsMembers a.image new
        at (inl (is, fails)) = absurd (nobody answer fails m accepted)
        at (inr goes) = goes below
