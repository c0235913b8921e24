-- A group never accepts a heartbeat of a member whose stamp isn't above the last one that it accepted.
use Rattle.std.proofs.Common.{◌≡◌, ◌≢◌, inl, inr, ℕ, false, cond, ◌||◌, max, List, [], ◌∷◌, Option, Some, None, is_some, IsTrue, refl, sym, ap, subst, ◌∙◌, true≢false}
use Rattle.std.specs.Cmp.{IsTotalOrder, nat_cmp_total, on_total, then_total, upto}
use Rattle.std.specs.List.{list_any}
use Rattle.std.specs.Ordering.{eq_by_cmp, is_gt, ordering_reverse}
use Rattle.std.specs.declared.cmp.Ordering.{Ordering}
use Rattle.std.specs.declared.cmp.Ordering.TheVariants.{Less, Equal, Greater}
use Rattle.std.specs.FinMap as finite
use Rattle.group_types.specs.declared.stamp.Stamp.{Stamp}
use Rattle.group_types.specs.Text.{Text, text_cmp}
use Rattle.group_types.specs.Stamp.{stamp_cmp}
use Rattle.group_types.specs.Request.{GOES_AWAY_AT, LEAVES_AT}
use Rattle.group_types.specs.Group.{Record, Past, Group}
use Rattle.group_types.specs.Members.{is_remembered, members_of, past_stamp, remembering, without_past}
use Rattle.group_types.specs.Leave.{away, gone_away, left, risen, without_member}
use Rattle.group_types.specs.Tick.{at_moment, due, expired, is_due, ticked, without_members}
use Rattle.group_types.specs.HeartbeatStep.{Answer, Replied, Arrival, Draft, farewell, handed_over}
use Rattle.group_types.specs.Laws.{GroupEvent, IsGroupStep, OfCommit, OfHeartbeat, OfTick}
use Rattle.group_types.specs.Sound.{IsPast}
use Rattle.group_types.proofs.Consistent.{IsConsistent, consistent}
use Rattle.group_types.specs.Fencing.{AcceptsOnce, IsAcceptedAs, IsLate, IsRunKnowing, last_stamp, stamp_kept}
use Rattle.group_types.proofs.Entries.{entries_found}
use Rattle.group_types.proofs.Lookups.{Tie, ties, differs, tie, no_tie, not_none, some_is, get-inserted, get-insert_other, removed_is_none}
use Rattle.group_types.proofs.Orders.{text_cmp_total}
use Rattle.group_types.proofs.PastLemmas.{first_differs, not_past, past_without}
use Rattle.group_types.proofs.Remembered.{IsSameOrForgotten, others_remembered, remembered_now, stamp_without_other}
use Rattle.group_types.proofs.Soundness.{Leaves, clocked_is_consistent, leaves_after, leaves_of_sorted, leaving_is_consistent, risen_is_consistent}
use Rattle.group_types.proofs.Heartbeats.{heartbeats_are_consistent, step_is_consistent}
use Rattle.group_types.proofs.Checked.{IsLater}
use Rattle.group_types.proofs.Accepted.{Came, unchanged, has_left, went_away, taken_in, came, Fails, nobody, Drafting, Stages, Whose, its_own, newcomer, takes_over}
use Rattle.group_types.specs.Checks.{Member}
use Rattle.group_types.proofs.Afterwards.{Last, accepted_is, handed, has_record, last_same, other_record, past_is, same_id}
use Rattle.group_types.proofs.Heirs.{former}

-- ---- stamps are ordered

stamp_cmp_total : IsTotalOrder stamp_cmp
stamp_cmp_total = then_total (on_total (λ (s : Stamp). s.connection) nat_cmp_total) (on_total (λ (s : Stamp). s.frame) nat_cmp_total)

not_gt : (o : Ordering) → o ≢ Greater → is_gt o ≡ false
not_gt Less other = refl
not_gt Equal other = refl
not_gt Greater other = absurd (other refl)

gt_not : (o : Ordering) → is_gt o ≡ false → o ≢ Greater
gt_not Less so = λ never. cc
gt_not Equal so = λ never. cc
gt_not Greater so = absurd (true≢false so)

-- what is late for a stamp is late for a later one
late_for : (stamp last next : Stamp) → IsLate stamp last → IsLater next last → IsLate stamp next
late_for stamp last next slow above =
    gt_not (stamp_cmp stamp next)
    (upto stamp_cmp_total stamp last next (not_gt (stamp_cmp stamp last) slow)
    (ap is_gt (stamp_cmp_total.antisymm last next ∙ ap ordering_reverse above)))

-- ---- how the stamp that is known under an id goes on

-- it stays, it becomes a later one, or the id is forgotten
data Goes (before after : Option Stamp) : Type 0 where
  stays : IsSameOrForgotten before after → Goes before after
  rises : (stamp : Stamp) → after ≡ Some stamp → ((last : Stamp) → before ≡ Some last → IsLater stamp last) → Goes before after

then_goes : (a b c : Option Stamp) → IsSameOrForgotten a b → IsSameOrForgotten b c → IsSameOrForgotten a c
then_goes a b c (inl ab) (inl bc) = inl (bc ∙ ab)
then_goes a b c (inr ab) (inl bc) = inr (bc ∙ ab)
then_goes a b c first (inr bc) = inr bc

at_none : (g : Group) (k : Text) → finite.get g.records k ≡ None → last_stamp g k ≡ past_stamp g.past k
at_none g k none = ap (λ o. stamp_kept o (past_stamp g.past k)) none

at_some : (g : Group) (k : Text) (r : Record) → finite.get g.records k ≡ Some r → last_stamp g k ≡ Some r.stamp
at_some g k r there = ap (λ o. stamp_kept o (past_stamp g.past k)) there

-- where the record is the same, by what is remembered
by_record : (o : Option Record) (before after : Option Stamp) → IsSameOrForgotten before after → IsSameOrForgotten (stamp_kept o before) (stamp_kept o after)
by_record None before after is = is
by_record (Some r) before after is = inl refl

goes_on : (g new : Group) (k : Text) → finite.get new.records k ≡ finite.get g.records k → IsSameOrForgotten (past_stamp g.past k) (past_stamp new.past k)
    → IsSameOrForgotten (last_stamp g k) (last_stamp new k)
goes_on g new k record_is past_is =
    subst (λ o. IsSameOrForgotten (last_stamp g k) (stamp_kept o (past_stamp new.past k))) (sym record_is)
    (by_record (finite.get g.records k) (past_stamp g.past k) (past_stamp new.past k) past_is)

-- ---- a member leaves

module _ (g : Group) (past : IsPast g.records g.past) (m : Text) (r : Record) (there : finite.get g.records m ≡ Some r) (stamp : Stamp) where
  left_stamp : last_stamp (without_member g m stamp) m ≡ Some stamp
  left_stamp =
      at_none (without_member g m stamp) m (removed_is_none g.records m)
      ∙ remembered_now g.past m stamp (not_past g.records g.past m r past there)

  left_others : (k : Text) → eq_by_cmp text_cmp k m ≡ false → IsSameOrForgotten (last_stamp g k) (last_stamp (without_member g m stamp) k)
  left_others k apart =
      goes_on g (without_member g m stamp) k
      (finite.get-remove text_cmp_total g.records m k ∙ ap (λ b. cond b None (finite.get g.records k)) apart)
      (others_remembered g.records g.past m stamp k past apart)

-- ---- those that are due leave

one_leaves : (g : Group) → IsPast g.records g.past → (m : Text) (r : Record) → finite.get g.records m ≡ Some r → (k : Text)
    → IsSameOrForgotten (last_stamp g k) (last_stamp (without_member g m r.stamp) k)
one_leaves g past m r there k = by (tie k m)
  where
    by : Tie k m → IsSameOrForgotten (last_stamp g k) (last_stamp (without_member g m r.stamp) k)
    by (ties is) =
        inl (ap (last_stamp (without_member g m r.stamp)) is ∙ left_stamp g past m r there r.stamp ∙ sym (ap (last_stamp g) is ∙ at_some g m r there))
    by (differs other apart) = left_others g past m r there r.stamp k apart

all_leave : (ms : List (Text × Record)) (g : Group) → IsConsistent g → Leaves g.records ms → (k : Text) → IsSameOrForgotten (last_stamp g k) (last_stamp (without_members g ms) k)
all_leave [] g sound leaves k = inl refl
all_leave (m ∷ ms) g sound leaves k =
    let after : Group = without_member g m.0 m.1.stamp in
    then_goes (last_stamp g k) (last_stamp after k) (last_stamp (without_members after ms) k)
    (one_leaves g sound.past m.0 m.1 leaves.0 k)
    (all_leave ms after (leaving_is_consistent g sound m.0 m.1 leaves.0 m.1.stamp) (leaves_after g.records m.0 ms leaves.1 leaves.2) k)

expired_goes : (ms : List (Text × Record)) (g : Group) → IsConsistent g → Leaves g.records ms → (k : Text) → IsSameOrForgotten (last_stamp g k) (last_stamp (expired g ms) k)
expired_goes [] g sound leaves k = inl refl
expired_goes (m ∷ ms) g sound leaves k = all_leave (m ∷ ms) (record g { epoch = risen g.epoch }) (risen_is_consistent g sound) leaves k

ticked_goes : (g : Group) → IsConsistent g → (moment : ℕ) (k : Text) → IsSameOrForgotten (last_stamp g k) (last_stamp (ticked g moment) k)
ticked_goes g sound moment k =
    let now : Group = at_moment g moment in
    expired_goes (due now) now (clocked_is_consistent g (max g.clock moment) sound)
    (leaves_of_sorted (λ m. is_due now.clock m.1) g.records (finite.entries g.records) (finite.entries_sorted g.records) (entries_found g.records)) k

-- ---- a join or a beat

module _ (g : Group) (sound : IsConsistent g) (a : Arrival) (answer : Answer) (new : Group) (d : Draft) (drafting : Drafting g a d) (stages : Stages d a.heartbeat answer new) where
  taken_stamp : last_stamp new d.id ≡ Some a.stamp
  taken_stamp =
      at_some new d.id (Last g a answer new d drafting stages) (has_record g a answer new d drafting stages)
      ∙ ap Some ((last_same g a answer new d drafting stages).stamp ∙ drafting.stamp)

  -- of another id, where nobody takes over
  keeps : drafting.base ≡ g → (k : Text) → k ≢ d.id → IsSameOrForgotten (last_stamp g k) (last_stamp new k)
  keeps base_is k other =
      goes_on g new k (other_record g a answer new d drafting stages k other ∙ ap (λ (x : Group). finite.get x.records k) base_is)
      (inl (ap (λ x. past_stamp x k) (past_is g a answer new d drafting stages) ∙ stamp_without_other drafting.base.past d.id k other ∙ ap (λ (x : Group). past_stamp x.past k) base_is))

  module _ (old : Member) (base_is : drafting.base ≡ handed_over g old d.id) (was : finite.get g.records old.id ≡ Some old.kept) (absent : finite.get g.records d.id ≡ None) where
    -- of another id than the old one and the heir's
    kept_past : (k : Text) → k ≢ d.id → k ≢ old.id → IsSameOrForgotten (past_stamp g.past k) (past_stamp new.past k)
    kept_past k not_heir other =
        let once : IsPast g.records (without_past g.past d.id) = past_without g.records g.records g.past d.id (λ n _ none. none) sound.past in
        let then : past_stamp new.past k ≡ past_stamp (remembering (without_past g.past d.id) old.id old.kept.stamp) k =
        ap (λ x. past_stamp x k) (past_is g a answer new d drafting stages) ∙ stamp_without_other drafting.base.past d.id k not_heir ∙ ap (λ (x : Group). past_stamp x.past k) base_is in
        subst (IsSameOrForgotten (past_stamp g.past k)) (sym then)
        (subst (λ (o : Option Stamp). IsSameOrForgotten o (past_stamp (remembering (without_past g.past d.id) old.id old.kept.stamp) k))
        (stamp_without_other g.past d.id k not_heir)
        (others_remembered g.records (without_past g.past d.id) old.id old.kept.stamp k once (no_tie k old.id other)))

    others_keep : (k : Text) → k ≢ d.id → k ≢ old.id → IsSameOrForgotten (last_stamp g k) (last_stamp new k)
    others_keep k not_heir other =
        goes_on g new k
        (other_record g a answer new d drafting stages k not_heir ∙ (handed g a answer new d drafting stages sound old base_is was absent).others k not_heir other)
        (kept_past k not_heir other)

  others_go : (k : Text) → k ≢ d.id → Whose g drafting.base a.heartbeat d → IsSameOrForgotten (last_stamp g k) (last_stamp new k)
  others_go k other (its_own r base_is id_is there same_epoch sent same_release) = keeps base_is k other
  others_go k other (newcomer base_is absent reports full) = keeps base_is k other
  others_go k not_heir (takes_over old base_is was absent gone instance reports full) = by (tie k old.id)
    where
      by : Tie k old.id → IsSameOrForgotten (last_stamp g k) (last_stamp new k)
      by (ties is) =
          let is_former = former g sound a answer new d drafting stages old base_is was absent gone instance reports in
          subst (λ (x : Text). IsSameOrForgotten (last_stamp g x) (last_stamp new x)) (sym is)
          (inl (at_none new old.id is_former.left ∙ is_former.remembered ∙ sym (at_some g old.id old.kept was)))
      by (differs other _) = others_keep old base_is was absent k not_heir other

  taken_goes : (k : Text) → Goes (last_stamp g k) (last_stamp new k)
  taken_goes k = by (tie k d.id)
    where
      by : Tie k d.id → Goes (last_stamp g k) (last_stamp new k)
      by (ties is) = rises a.stamp (ap (last_stamp new) is ∙ taken_stamp) (λ last before. drafting.in_time last (ap (last_stamp g) (sym is) ∙ before))
      by (differs other _) = stays (others_go k other drafting.whose)

-- ---- any heartbeat

module _ (g : Group) (sound : IsConsistent g) (a : Arrival) (answer : Answer) (new : Group) where
  came_goes : (k : Text) → Came g a answer new → Goes (last_stamp g k) (last_stamp new k)
  came_goes k (unchanged same fails) = stays (inl (ap (λ (x : Group). last_stamp x k) same))
  came_goes k (has_left r epoch there later answers is) =
      subst (λ (x : Group). Goes (last_stamp g k) (last_stamp x k)) (sym is) (by (tie k a.heartbeat.member))
    where
      by : Tie k a.heartbeat.member → Goes (last_stamp g k) (last_stamp (left g a.heartbeat.member a.stamp a.moment) k)
      by (ties same) =
          rises a.stamp
          (ap (last_stamp (left g a.heartbeat.member a.stamp a.moment)) same ∙ left_stamp (record g { clock = max g.clock a.moment; epoch = risen g.epoch }) sound.past a.heartbeat.member r there a.stamp)
          (λ last before. subst (IsLater a.stamp) (some_is r.stamp last (sym (ap (last_stamp g) same ∙ at_some g a.heartbeat.member r there) ∙ before)) later)
      by (differs other apart) = stays (left_others (record g { clock = max g.clock a.moment; epoch = risen g.epoch }) sound.past a.heartbeat.member r there a.stamp k apart)
  came_goes k (went_away r epoch there later answers is) =
      subst (λ (x : Group). Goes (last_stamp g k) (last_stamp x k)) (sym is) (by (tie k a.heartbeat.member))
    where
      by : Tie k a.heartbeat.member → Goes (last_stamp g k) (last_stamp (gone_away g a.heartbeat.member r a.stamp a.moment) k)
      by (ties same) =
          rises a.stamp
          (ap (last_stamp (gone_away g a.heartbeat.member r a.stamp a.moment)) same
          ∙ at_some (gone_away g a.heartbeat.member r a.stamp a.moment) a.heartbeat.member (away r a.stamp (max g.clock a.moment)) (get-inserted g.records a.heartbeat.member (away r a.stamp (max g.clock a.moment))))
          (λ last before. subst (IsLater a.stamp) (some_is r.stamp last (sym (ap (last_stamp g) same ∙ at_some g a.heartbeat.member r there) ∙ before)) later)
      by (differs other apart) =
          stays (goes_on g (gone_away g a.heartbeat.member r a.stamp a.moment) k (get-insert_other g.records a.heartbeat.member (away r a.stamp (max g.clock a.moment)) k apart) (inl refl))
  came_goes k (taken_in d drafting stages takes) = taken_goes g sound a answer new d drafting stages k

  -- an accepted one's stamp is known under its member's id
  came_stamp : (m : Text) → IsAcceptedAs m answer → Came g a answer new → last_stamp new m ≡ Some a.stamp
  came_stamp m accepted (unchanged same fails) = absurd (nobody answer fails m accepted)
  came_stamp m accepted (has_left r epoch there later answers is) =
      let id = a.heartbeat.member in
      ap (last_stamp new) (same_id m id answer (farewell id LEAVES_AT) answers refl accepted) ∙ ap (λ (x : Group). last_stamp x id) is
      ∙ left_stamp (record g { clock = max g.clock a.moment; epoch = risen g.epoch }) sound.past id r there a.stamp
  came_stamp m accepted (went_away r epoch there later answers is) =
      let id = a.heartbeat.member in
      let gone : Record = away r a.stamp (max g.clock a.moment) in
      ap (last_stamp new) (same_id m id answer (farewell id GOES_AWAY_AT) answers refl accepted) ∙ ap (λ (x : Group). last_stamp x id) is
      ∙ at_some (gone_away g id r a.stamp a.moment) id gone (get-inserted g.records id gone)
  came_stamp m accepted (taken_in d drafting stages takes) =
      ap (last_stamp new) (accepted_is g a answer new d drafting stages m accepted) ∙ taken_stamp g sound a answer new d drafting stages

  -- and a late one isn't accepted
  came_late : (last : Stamp) → last_stamp g a.heartbeat.member ≡ Some last → IsLate a.stamp last → Came g a answer new → Fails answer
  came_late last known slow (unchanged same fails) = fails
  came_late last known slow (has_left r epoch there later answers is) =
      absurd (slow (subst (IsLater a.stamp) (some_is r.stamp last (sym (at_some g a.heartbeat.member r there) ∙ known)) later))
  came_late last known slow (went_away r epoch there later answers is) =
      absurd (slow (subst (IsLater a.stamp) (some_is r.stamp last (sym (at_some g a.heartbeat.member r there) ∙ known)) later))
  came_late last known slow (taken_in d drafting stages takes) = absurd (slow (drafting.named_in_time last known))

-- ---- any event

event_goes : (event : GroupEvent) (g new : Group) → IsConsistent g → IsGroupStep g event new → (k : Text) → Goes (last_stamp g k) (last_stamp new k)
event_goes (OfHeartbeat a answer) g new sound step k = came_goes g sound a answer new k (came g sound a answer new step.1)
event_goes (OfTick moment) g new sound step k = stays (subst (λ (x : Group). IsSameOrForgotten (last_stamp g k) (last_stamp x k)) (sym step) (ticked_goes g sound moment k))
event_goes (OfCommit c image reply) g new sound step k = stays (inl (ap (λ (x : Group). last_stamp x k) step.stores))

-- an id that is remembered has a stamp
none_named : (past : Past) (m : Text) → past_stamp past m ≡ None → list_any (λ (e : Text × Stamp). eq_by_cmp text_cmp m e.0) past ≡ false
none_named [] m none = refl
none_named (e ∷ past) m none =
    let there = first_differs past e m none in
    ap (λ b. b || list_any (λ (e : Text × Stamp). eq_by_cmp text_cmp m e.0) past) there.0 ∙ none_named past m there.1

has_stamp : (g : Group) (m : Text) → IsTrue (is_remembered (members_of g) m) → last_stamp g m ≡ None → ⊥
has_stamp g m known none = by (finite.get g.records m) refl
  where
    by : (o : Option Record) → finite.get g.records m ≡ o → ⊥
    by None absent =
        true≢false (sym known ∙ (λ i. is_some (absent i) || none_named g.past m (sym (at_none g m absent) ∙ none) i))
    by (Some r) there = not_none r.stamp (sym none ∙ at_some g m r there)

-- the stamp is late for the one that is known
record IsLateIn (g : Group) (m : Text) (stamp : Stamp) : Type 0 where
  sound : IsConsistent g
  last : Stamp
  known : last_stamp g m ≡ Some last
  late : IsLate stamp last

stays_late : (events : List GroupEvent) (g new : Group) (m : Text) (stamp : Stamp) → IsRunKnowing m g events new → IsLateIn g m stamp → IsLateIn new m stamp
stays_late [] g new m stamp run late = subst (λ (x : Group). IsLateIn x m stamp) (sym run) late
stays_late (event ∷ events) g new m stamp (next, step, known, run) late =
    stays_late events next new m stamp run (by (event_goes event g next late.sound step m))
  where
    by : Goes (last_stamp g m) (last_stamp next m) → IsLateIn next m stamp
    by (stays (inl same)) = record { sound = step_is_consistent event g next step late.sound; last = late.last; known = same ∙ late.known; late = late.late }
    by (stays (inr forgotten)) = absurd (has_stamp next m known forgotten)
    by (rises later is above) =
        record { sound = step_is_consistent event g next step late.sound; last = later; known = is; late = late_for stamp late.last later late.late (above late.last late.known) }

pub accepts_once : AcceptsOnce
accepts_once g a m answer next events last b reply new sound step accepted run names late again =
    let kept = consistent g sound in
    let first : IsLateIn next m b.stamp =
    record {
      sound = heartbeats_are_consistent g a answer next step kept;
      last = a.stamp;
      known = came_stamp g kept a answer next m accepted (came g kept a answer next step);
      late = late;
    } in
    let then = stays_late events next last m b.stamp run first in
    came_late last then.sound b (Replied reply) new then.last (ap (last_stamp last) names ∙ then.known) then.late
    (came last then.sound b (Replied reply) new again) reply refl
