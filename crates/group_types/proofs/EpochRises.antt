-- A member epoch rises where its member has given up what it lost.
use Rattle.std.proofs.Common.{◌≡◌, ◌⊎◌, inl, inr, ◌<◌, Bool, true, false, not, ◌&&◌, ◌||◌, max, Option, Some, None, IsTrue, refl, sym, ap, ◌∙◌, arith, true≢false}
use Rattle.std.specs.FinMap as finite
use Rattle.group_types.specs.declared.partition.Partition.{Partition}
use Rattle.group_types.specs.Text.{Text}
use Rattle.group_types.specs.Sets.{common, has, is_nothing, minus}
use Rattle.group_types.specs.Partition.{Partitions}
use Rattle.group_types.specs.Request.{reported}
use Rattle.group_types.specs.Group.{Record, Grants, Group, Target, held, wanted}
use Rattle.group_types.specs.Leave.{away, last_epoch}
use Rattle.group_types.specs.Settle.{may_move, grants_after, settled_record}
use Rattle.group_types.specs.HeartbeatStep.{Answer, Arrival, Draft}
use Rattle.group_types.proofs.Consistent.{IsConsistent, consistent}
use Rattle.group_types.specs.MemberEpochs.{EpochsRiseWithinTargets, GoesOnTo}
use Rattle.group_types.proofs.Orders.{partition_cmp_total, partition_cmp-IsAntisymmetric}
use Rattle.group_types.proofs.SetLemmas.{apart_of_common, has-minus, is_nothing-Decides, nothing_left}
use Rattle.group_types.proofs.SpreadLemmas.{has-share_of, owns-get}
use Rattle.group_types.proofs.GrantLemmas.{has-held}
use Rattle.group_types.proofs.Lookups.{Tie, ties, differs, tie, not_none, some_is, found_without, get-inserted, get-insert_other}
use Rattle.group_types.proofs.Settlings.{arrived_epoch, asked_epoch, moved_within}
use Rattle.group_types.proofs.Accepted.{Came, unchanged, has_left, went_away, taken_in, came, Drafting, Stages, Whose, its_own, newcomer, takes_over, may}
use Rattle.group_types.proofs.Afterwards.{Last, Renewed, Settled, grants_are, handed, has_record, other_record, sent_epoch, taken_from, target_epoch_is, target_is, there}

-- ---- who may move has given up what it lost

both_of : (a b : Bool) → (a && not b) ≡ false → a ≡ true → b ≡ true
both_of true true so is = refl
both_of true false so is = absurd (true≢false so)
both_of false b so is = absurd (true≢false (sym is))

module _ (grants : Grants) (target : Target) (m : Text) where
  abbrev Rest : Partitions
  Rest = minus (held grants m) (wanted target m)

  is_wanted : (p : Partition) → IsTrue (has grants (m, p)) → (has (held grants m) p && not (has (wanted target m) p)) ≡ false → finite.get target p ≡ Some m
  is_wanted p holds none =
      (owns-get target m p).0 (sym (has-share_of target m p) ∙ both_of (has (held grants m) p) (has (wanted target m) p) none (has-held grants m p ∙ holds))

  within_all : is_nothing Rest ≡ true → (p : Partition) → IsTrue (has grants (m, p)) → finite.get target p ≡ Some m
  within_all so p holds =
      is_wanted p holds (nothing_left partition_cmp_total partition_cmp-IsAntisymmetric (held grants m) (wanted target m) ((is_nothing-Decides Rest).0 so) p)

  within_reported : (owned : Partitions) → is_nothing (common owned Rest) ≡ true → (p : Partition) → IsTrue (has grants (m, p)) → IsTrue (has owned p) → finite.get target p ≡ Some m
  within_reported owned so p holds owns =
      is_wanted p holds
      (sym (has-minus partition_cmp_total (held grants m) (wanted target m) p)
      ∙ apart_of_common partition_cmp_total partition_cmp-IsAntisymmetric owned Rest ((is_nothing-Decides (common owned Rest)).0 so) p owns)

  abbrev GivenUp : Option Partitions → Type 0
  GivenUp report =
      ((p : Partition) → IsTrue (has grants (m, p)) → finite.get target p ≡ Some m)
      ⊎ ((owned : Partitions) × (report ≡ Some owned) × ((p : Partition) → IsTrue (has grants (m, p)) → IsTrue (has owned p) → finite.get target p ≡ Some m))

  given_up : (report : Option Partitions) → may_move Rest report ≡ true → GivenUp report
  given_up None so = inl (within_all so)
  given_up (Some owned) so = by (is_nothing Rest) refl so
    where
      by : (b : Bool) → is_nothing Rest ≡ b → (b || is_nothing (common owned Rest)) ≡ true → GivenUp (Some owned)
      by true all so = inl (within_all all)
      by false some so = inr (owned, refl, within_reported owned so)

-- ---- the member that rises

module _ (g : Group) (a : Arrival) (answer : Answer) (new : Group) (d : Draft) (drafting : Drafting g a d) (stages : Stages d a.heartbeat answer new) where
  abbrev TheRenewed : Group
  TheRenewed = Renewed g a answer new d drafting stages

  target_of : (p : Partition) → finite.get TheRenewed.target p ≡ Some d.id → finite.get new.target p ≡ Some d.id
  target_of p owns = ap (λ t. finite.get t p) (target_is g a answer new d drafting stages) ∙ owns

  record_epoch : (b : Bool) → may TheRenewed d a.heartbeat ≡ b
      → last_epoch (Last g a answer new d drafting stages) ≡ last_epoch (settled_record b d.after TheRenewed.target_epoch TheRenewed.clock)
  record_epoch b is =
      sent_epoch (Settled g a answer new d drafting stages) _ ∙ ap (λ b. last_epoch (settled_record b d.after TheRenewed.target_epoch TheRenewed.clock)) is

  pub stays_within : may TheRenewed d a.heartbeat ≡ true → (p : Partition) → IsTrue (has new.grants (d.id, p)) → finite.get new.target p ≡ Some d.id
  stays_within so p holds =
      target_of p
      (moved_within TheRenewed stages.sound d.id d.after (there g a answer new d drafting stages) p
      (ap (λ b. has (grants_after b TheRenewed.grants d.id (wanted TheRenewed.target d.id)) (d.id, p)) (sym so)
      ∙ sym (ap (λ x. has x (d.id, p)) (grants_are g a answer new d drafting stages)) ∙ holds))

  goes_on_to : drafting.base ≡ g → (m : Text) (after : Record) → a.heartbeat.member ≡ m → d.id ≡ m → finite.get new.records m ≡ Some after → last_epoch d.after < last_epoch after
      → GoesOnTo g a new m after
  goes_on_to base_is m after sender is_id is_now rises = by (may TheRenewed d a.heartbeat) refl
    where
      same_last : last_epoch after ≡ last_epoch (Last g a answer new d drafting stages)
      same_last =
          ap last_epoch (some_is after (Last g a answer new d drafting stages)
          (sym is_now ∙ ap (finite.get new.records) (sym is_id) ∙ has_record g a answer new d drafting stages))

      same_grants : TheRenewed.grants ≡ g.grants
      same_grants = stages.grants ∙ drafting.grants ∙ ap (λ (x : Group). x.grants) base_is

      report_of : ((p : Partition) → IsTrue (has TheRenewed.grants (d.id, p)) → finite.get TheRenewed.target p ≡ Some d.id)
          ⊎ ((owned : Partitions) × (reported a.heartbeat ≡ Some owned) × ((p : Partition) → IsTrue (has TheRenewed.grants (d.id, p)) → IsTrue (has owned p) → finite.get TheRenewed.target p ≡ Some d.id))
          → ((p : Partition) → IsTrue (has g.grants (m, p)) → finite.get new.target p ≡ Some m)
          ⊎ ((owned : Partitions) × (reported a.heartbeat ≡ Some owned) × ((p : Partition) → IsTrue (has g.grants (m, p)) → IsTrue (has owned p) → finite.get new.target p ≡ Some m))
      report_of (inl all) = inl (λ p holds. target_of p (all p (held_then p holds)) ∙ ap Some is_id)
        where
          held_then : (p : Partition) → IsTrue (has g.grants (m, p)) → IsTrue (has TheRenewed.grants (d.id, p))
          held_then p holds = (λ i. has (same_grants i) (is_id i, p)) ∙ holds
      report_of (inr (owned, reports, all)) = inr (owned, reports, λ p holds owns. target_of p (all p (held_then p holds) owns) ∙ ap Some is_id)
        where
          held_then : (p : Partition) → IsTrue (has g.grants (m, p)) → IsTrue (has TheRenewed.grants (d.id, p))
          held_then p holds = (λ i. has (same_grants i) (is_id i, p)) ∙ holds

      by : (b : Bool) → may TheRenewed d a.heartbeat ≡ b → GoesOnTo g a new m after
      by false may_not =
          let same = same_last ∙ record_epoch false may_not ∙ asked_epoch d.after d.after.release_deadline TheRenewed.clock in
          absurd (omega (arith, rises, same))
      by true so =
          record {
            sender = sender;
            epoch = same_last ∙ record_epoch true so ∙ arrived_epoch d.after d.after.epoch TheRenewed.target_epoch refl ∙ sym (target_epoch_is g a answer new d drafting stages);
            gave_up = report_of (given_up TheRenewed.grants TheRenewed.target d.id (reported a.heartbeat) so);
            within = λ p holds. stays_within so p (ap (λ k. has new.grants (k, p)) is_id ∙ holds) ∙ ap Some is_id;
          }

-- ---- nobody else rises

module _ (g : Group) (sound : IsConsistent g) (a : Arrival) (answer : Answer) (new : Group) (m : Text) (r after : Record)
    (was : finite.get g.records m ≡ Some r) (is_now : finite.get new.records m ≡ Some after) (rises : last_epoch r < last_epoch after) where
  not_same : last_epoch after ≡ last_epoch r → ⊥
  not_same same = omega (arith, rises, same)

  not_kept : finite.get new.records m ≡ finite.get g.records m → ⊥
  not_kept same = not_same (ap last_epoch (some_is after r (sym is_now ∙ same ∙ was)))

  by_owner : (d : Draft) (drafting : Drafting g a d) (stages : Stages d a.heartbeat answer new) → Whose g drafting.base a.heartbeat d → GoesOnTo g a new m after
  by_owner d drafting stages (its_own t base_is id_is there_was same_epoch sent same_release) = by (tie m d.id)
    where
      by : Tie m d.id → GoesOnTo g a new m after
      by (ties same) =
          let before : r ≡ t = some_is r t (sym was ∙ ap (finite.get g.records) same ∙ there_was) in
          let epoch : last_epoch d.after ≡ last_epoch r = same_epoch ∙ ap last_epoch (sym before) in
          goes_on_to g a answer new d drafting stages base_is m after (sym id_is ∙ sym same) (sym same) is_now (omega (arith, epoch, rises))
      by (differs other _) =
          absurd (not_kept (other_record g a answer new d drafting stages m other ∙ ap (λ (x : Group). finite.get x.records m) base_is))
  by_owner d drafting stages (newcomer base_is absent reports full) = absurd (by (tie m d.id))
    where
      by : Tie m d.id → ⊥
      by (ties same) = not_none r (sym absent ∙ ap (finite.get g.records) (sym same) ∙ was)
      by (differs other _) = not_kept (other_record g a answer new d drafting stages m other ∙ ap (λ (x : Group). finite.get x.records m) base_is)
  by_owner d drafting stages (takes_over old base_is there_was absent gone instance reports full) = absurd (by (tie m d.id) (tie m old.id))
    where
      by : Tie m d.id → Tie m old.id → ⊥
      by (ties same) _ = not_none r (sym absent ∙ ap (finite.get g.records) (sym same) ∙ was)
      by (differs not_heir _) (ties same) =
          not_none after (sym (taken_from g a answer new d drafting stages sound old base_is there_was absent) ∙ ap (finite.get new.records) (sym same) ∙ is_now)
      by (differs not_heir _) (differs other _) =
          not_kept (other_record g a answer new d drafting stages m not_heir ∙ (handed g a answer new d drafting stages sound old base_is there_was absent).others m not_heir other)

  by : Came g a answer new → GoesOnTo g a new m after
  by (unchanged same fails) = absurd (not_kept (ap (λ (x : Group). finite.get x.records m) same))
  by (has_left t epoch there_was later answers is) =
      absurd (not_same (ap last_epoch (some_is after r
      (sym (found_without g.records a.heartbeat.member m after (ap (λ (x : Group). finite.get x.records m) (sym is) ∙ is_now)).0 ∙ was))))
  by (went_away t epoch there_was later answers is) = absurd (at (tie m a.heartbeat.member))
    where
      at : Tie m a.heartbeat.member → ⊥
      at (ties same) =
          let before : r ≡ t = some_is r t (sym was ∙ ap (finite.get g.records) same ∙ there_was) in
          let is_gone : after ≡ away t a.stamp (max g.clock a.moment) =
          some_is after (away t a.stamp (max g.clock a.moment)) (sym is_now ∙ ap (λ (x : Group). finite.get x.records m) is ∙ ap (finite.get (finite.insert g.records a.heartbeat.member (away t a.stamp (max g.clock a.moment)))) same ∙ get-inserted g.records a.heartbeat.member (away t a.stamp (max g.clock a.moment))) in
          not_same (ap last_epoch is_gone ∙ ap last_epoch (sym before))
      at (differs other apart) =
          not_kept (ap (λ (x : Group). finite.get x.records m) is ∙ get-insert_other g.records a.heartbeat.member (away t a.stamp (max g.clock a.moment)) m apart)
  by (taken_in d drafting stages takes) = by_owner d drafting stages drafting.whose

pub epochs_rise_within_targets : EpochsRiseWithinTargets
epochs_rise_within_targets g a answer new m r after sound step was is_now rises =
    let kept = consistent g sound in by g kept a answer new m r after was is_now rises (came g kept a answer new step)
