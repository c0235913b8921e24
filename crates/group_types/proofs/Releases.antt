-- How long a member has to give up what it lost.
use Rattle.std.proofs.Common.{◌≡◌, ℕ, ◌==◌, Bool, true, false, not, ◌&&◌, ◌||◌, cond, max, List, [], ◌∷◌, length, Option, Some, None, refl, sym, ap, subst, ◌∙◌, true≢false}
use Rattle.std.specs.List.{list_any}
use Rattle.std.specs.Ordering.{eq_by_cmp, is_eq}
use Rattle.std.specs.FinMap as finite
use Rattle.group_types.specs.declared.epoch.Epoch.{Epoch}
use Rattle.group_types.specs.declared.epoch.Epoch.TheVariants.{At, Away}
use Rattle.group_types.specs.Moment.{saturated_sum}
use Rattle.group_types.specs.Text.{Text}
use Rattle.group_types.specs.declared.partition.Partition.{Partition}
use Rattle.group_types.specs.Sets.{common, has, in_order, is_nothing, minus}
use Rattle.group_types.specs.Partition.{Partitions, partition_cmp}
use Rattle.group_types.specs.Request.{reported}
use Rattle.group_types.specs.Group.{Record, Group, held, wanted}
use Rattle.group_types.specs.Settle.{arrived, asked, grants_after, may_move, settled_record}
use Rattle.group_types.specs.HeartbeatStep.{Answer, Arrival, Draft, sent_after}
use Rattle.group_types.specs.Deadlines.{HasToGiveUp, IsTimed, ReleasesAreTimed, asked_before, done, first_asked}
use Rattle.group_types.proofs.Orders.{partition_cmp-itself, partition_cmp_total}
use Rattle.group_types.proofs.SetLemmas.{has-in_order, has-minus}
use Rattle.group_types.proofs.SpreadLemmas.{has-share_of, owns-get}
use Rattle.group_types.proofs.GrantLemmas.{has-held}
use Rattle.group_types.proofs.Lookups.{not_none, some_is}
use Rattle.group_types.proofs.Consistent.{consistent}
use Rattle.group_types.proofs.Accepted.{Came, unchanged, has_left, went_away, taken_in, came, nobody, Drafting, Stages, Whose, its_own, newcomer, takes_over, may}
use Rattle.group_types.proofs.Afterwards.{Last, Renewed, Settled, accepted_is, grants_are, has_record, target_is}
use Rattle.group_types.proofs.EpochRises.{stays_within}
use Rattle.group_types.proofs.Heirs.{moves}
use Rattle.group_types.proofs.Shown.{never_negative}

-- ---- who may not move has something to give up

-- a set that isn't empty has a partition
some_partition : (s : Partitions) → is_nothing s ≡ false → (p : Partition) × (has s p ≡ true)
some_partition s some = by (in_order s) refl some
  where
    by : (ps : List Partition) → in_order s ≡ ps → (length ps == 0) ≡ false → (p : Partition) × (has s p ≡ true)
    by [] is never = absurd (true≢false never)
    by (p ∷ ps) is more =
        (p, has-in_order s p ∙ ap (list_any (eq_by_cmp partition_cmp p)) is ∙ ap (λ o. is_eq o || list_any (eq_by_cmp partition_cmp p) ps) (partition_cmp-itself p))

first_fails : (a b : Bool) → (a || b) ≡ false → a ≡ false
first_fails true b never = never
first_fails false b is = refl

not_moved : (rest : Partitions) (report : Option Partitions) → may_move rest report ≡ false → is_nothing rest ≡ false
not_moved rest None so = so
not_moved rest (Some owned) so = first_fails (is_nothing rest) (is_nothing (common owned rest)) so

first_holds : (a b : Bool) → (a && not b) ≡ true → a ≡ true
first_holds true b is = refl
first_holds false b never = never

second_fails : (a b : Bool) → (a && not b) ≡ true → b ≡ false
second_fails true true never = sym never
second_fails true false is = refl
second_fails false b never = absurd (true≢false (sym never))

-- ---- the deadline of a record

arrived_release : (r : Record) (e : Epoch) (t : ℕ) → (arrived r e t).release_deadline ≡ None
arrived_release r Away t = refl
arrived_release r (At e) t =
    elim (e == t) as (λ b. (cond b (record r { release_deadline = None }) (record r { previous_epoch = e; epoch = At t; release_deadline = None })).release_deadline ≡ None) [
      | true ↦ refl
      | false ↦ refl
    ]

sent_release : (r : Record) (o : Option Partitions) → (sent_after r o).release_deadline ≡ r.release_deadline
sent_release r None = refl
sent_release r (Some set) = refl

sent_timeout : (r : Record) (o : Option Partitions) → (sent_after r o).rebalance_timeout ≡ r.rebalance_timeout
sent_timeout r None = refl
sent_timeout r (Some set) = refl

asked_anew : (r : Record) (o : Option ℕ) (now : ℕ) → o ≡ None → (asked r o now).release_deadline ≡ Some (saturated_sum now r.rebalance_timeout)
asked_anew r None now none = refl
asked_anew r (Some deadline) now never = absurd (not_none deadline (sym never))

asked_again : (r : Record) (o : Option ℕ) (now deadline : ℕ) → r.release_deadline ≡ o → o ≡ Some deadline → (asked r o now).release_deadline ≡ Some deadline
asked_again r None now deadline is never = absurd (not_none deadline never)
asked_again r (Some other) now deadline is same = is ∙ same

asked_timeout : (r : Record) (o : Option ℕ) (now : ℕ) → (asked r o now).rebalance_timeout ≡ r.rebalance_timeout
asked_timeout r None now = refl
asked_timeout r (Some deadline) now = refl

-- ---- the member's

module _ (g : Group) (a : Arrival) (answer : Answer) (new : Group) (d : Draft) (drafting : Drafting g a d) (stages : Stages d a.heartbeat answer new)
    (after : Record) (is_now : finite.get new.records d.id ≡ Some after) where
  abbrev TheRenewed : Group
  TheRenewed = Renewed g a answer new d drafting stages

  abbrev By : Bool → Record
  By b = settled_record b d.after TheRenewed.target_epoch TheRenewed.clock

  is_last : after ≡ Last g a answer new d drafting stages
  is_last = some_is after (Last g a answer new d drafting stages) (sym is_now ∙ has_record g a answer new d drafting stages)

  release_is : (b : Bool) → may TheRenewed d a.heartbeat ≡ b → after.release_deadline ≡ (By b).release_deadline
  release_is b is = ap (λ (x : Record). x.release_deadline) is_last ∙ sent_release (Settled g a answer new d drafting stages) _ ∙ ap (λ b. (By b).release_deadline) is

  timeout_is : (b : Bool) → may TheRenewed d a.heartbeat ≡ b → after.rebalance_timeout ≡ (By b).rebalance_timeout
  timeout_is b is = ap (λ (x : Record). x.rebalance_timeout) is_last ∙ sent_timeout (Settled g a answer new d drafting stages) _ ∙ ap (λ b. (By b).rebalance_timeout) is

  moved : may TheRenewed d a.heartbeat ≡ true → IsTimed g a new d.id after
  moved so = done (release_is true so ∙ arrived_release d.after d.after.epoch TheRenewed.target_epoch) (stays_within g a answer new d drafting stages so)

  now_is : TheRenewed.clock ≡ max g.clock a.moment
  now_is = stages.clock ∙ drafting.clock

  owes : may TheRenewed d a.heartbeat ≡ false → HasToGiveUp new d.id
  owes so =
      let rest = some_partition (minus (held TheRenewed.grants d.id) (wanted TheRenewed.target d.id)) (not_moved _ (reported a.heartbeat) so) in
      let p = rest.0 in
      let is : (has (held TheRenewed.grants d.id) p && not (has (wanted TheRenewed.target d.id) p)) ≡ true =
      sym (has-minus partition_cmp_total (held TheRenewed.grants d.id) (wanted TheRenewed.target d.id) p) ∙ rest.1 in (
        p,
        ap (λ x. has x (d.id, p)) (grants_are g a answer new d drafting stages)
            ∙ ap (λ b. has (grants_after b TheRenewed.grants d.id (wanted TheRenewed.target d.id)) (d.id, p)) so
            ∙ sym (has-held TheRenewed.grants d.id p) ∙ first_holds _ _ is,
        λ owns.
            true≢false
            (sym (has-share_of TheRenewed.target d.id p
            ∙ (owns-get TheRenewed.target d.id p).1 (sym (ap (λ t. finite.get t p) (target_is g a answer new d drafting stages)) ∙ owns))
            ∙ second_fails _ _ is),
      )

  waits : may TheRenewed d a.heartbeat ≡ false → (r : Record) → finite.get g.records d.id ≡ Some r → d.after.release_deadline ≡ r.release_deadline
      → (o : Option ℕ) → r.release_deadline ≡ o → IsTimed g a new d.id after
  waits so r there same None none =
      first_asked r (owes so) there none
      (release_is false so
      ∙ asked_anew d.after d.after.release_deadline TheRenewed.clock (same ∙ none)
      ∙ (λ i. Some (saturated_sum (now_is i) (sym (timeout_is false so ∙ asked_timeout d.after d.after.release_deadline TheRenewed.clock) i))))
  waits so r there same (Some deadline) is =
      asked_before r deadline (owes so) there is
      (release_is false so ∙ asked_again d.after d.after.release_deadline TheRenewed.clock deadline refl (same ∙ is))

  by_owner : (b : Bool) → may TheRenewed d a.heartbeat ≡ b → Whose g drafting.base a.heartbeat d → IsTimed g a new d.id after
  by_owner true so whose = moved so
  by_owner false so (its_own r base_is id_is there same_epoch sent same_release) =
      waits so r there same_release r.release_deadline refl
  by_owner false so (newcomer base_is absent reports full) =
      moved (moves (minus (held TheRenewed.grants d.id) (wanted TheRenewed.target d.id)) (reported a.heartbeat) reports)
  by_owner false so (takes_over old base_is was absent gone instance reports full) =
      moved (moves (minus (held TheRenewed.grants d.id) (wanted TheRenewed.target d.id)) (reported a.heartbeat) reports)

  timed : IsTimed g a new d.id after
  timed = by_owner (may TheRenewed d a.heartbeat) refl drafting.whose

pub releases_are_timed : ReleasesAreTimed
releases_are_timed g a m answer new epoch after sound step is_epoch accepted is_now = by (came g (consistent g sound) a answer new step)
  where
    by : Came g a answer new → IsTimed g a new m after
    by (unchanged same fails) = absurd (nobody answer fails m accepted)
    by (has_left r leaves there later answers is) = absurd (never_negative a.heartbeat.epoch epoch 0 is_epoch leaves)
    by (went_away r goes there later answers is) = absurd (never_negative a.heartbeat.epoch epoch 1 is_epoch goes)
    by (taken_in d drafting stages takes) =
        let is = accepted_is g a answer new d drafting stages m accepted in
        subst (λ (k : Text). IsTimed g a new k after) (sym is)
        (timed g a answer new d drafting stages after (ap (finite.get new.records) (sym is) ∙ is_now))
