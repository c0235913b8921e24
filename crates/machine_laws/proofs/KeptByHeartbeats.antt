-- An accepted heartbeat leaves a target that fits.
use Rattle.std.proofs.Common.{◌≡◌, ◌≢◌, ℕ, ◌==◌, pos, Bool, true, false, cond, ◌&&◌, max, nat_le, List, [], ◌∷◌, map, Option, Some, None, is_lt, is_eq, IsPermutation, refl, sym, ap, subst, ◌∙◌, T}
use Rattle.std.specs.declared.cmp.Ordering.{Ordering}
use Rattle.std.specs.declared.cmp.Ordering.TheVariants.{Less, Equal, Greater}
use Rattle.std.specs.FinMap as finite
use Rattle.std.specs.FinMap.{find, put}
use Rattle.std.specs.FinMap.Entries.{below_all, is_sorted}
use Rattle.group_types.specs.declared.code.Code.TheVariants as codes
use Rattle.group_types.specs.declared.epoch.Epoch.{Epoch}
use Rattle.group_types.specs.declared.epoch.Epoch.TheVariants.{At, Away}
use Rattle.group_types.specs.Limits.{GREATEST_EPOCH}
use Rattle.group_types.specs.Text.{Text, text_cmp}
use Rattle.group_types.specs.Partition.{Partitions}
use Rattle.group_types.specs.Topics.{Topics}
use Rattle.group_types.specs.Request.{reported}
use Rattle.group_types.specs.Assignors.{Subscriber}
use Rattle.group_types.specs.Group.{Group, Record, Records, wanted}
use Rattle.group_types.specs.Renewal.{AreMembers, RenewsWhere, changed_if, subscriber_of, view_for}
use Rattle.group_types.specs.Settle.{arrived, asked, may_settle, settled_by, settled_record}
use Rattle.group_types.specs.Checks.{Accepted, Refused}
use Rattle.group_types.specs.HeartbeatStep as machine
use Rattle.group_types.specs.HeartbeatStep.{Answer, Arrival, ByVerdict, Draft, sent_after}
use Rattle.group_types.specs.Fencing.{IsAcceptedAs}
use Rattle.group_types.proofs.Accepted.{Came, unchanged, has_left, went_away, taken_in, came, nobody, refusal_fails, Drafting, Stages, Made, of_beat, of_rejoin, of_newcomer, of_heir}
use Rattle.group_types.proofs.Afterwards.{handed_to_heir, other_record}
use Rattle.group_types.proofs.Checked.{unavailable_is}
use Rattle.group_types.proofs.Consistent.{IsConsistent, consistent}
use Rattle.group_types.proofs.Entries.{first_part, second_part}
use Rattle.group_types.proofs.Lookups.{not_none, some_is}
use Rattle.group_types.proofs.Orders.{text_cmp_total}
use Rattle.machine_laws.specs.Renewals.{FitsMembers, HeartbeatsKeepOwners, NobodyGoes, RenewalsKeepOwners}

-- ---- the members as an assignor sees them

less : (o : Ordering) → T (is_lt o) → o ≡ Less
less Less so = refl
less Equal never = absurd never
less Greater never = absurd never

-- a key before all others isn't among them
nowhere : (k x : Text) (es : List (Text × Record)) → text_cmp k x ≡ Less → T (below_all text_cmp x es) → find text_cmp k es ≡ None
nowhere k x [] before below = refl
nowhere k x (e ∷ es) before below =
    ap (λ o. cond (is_eq o) (Some e.1) (find text_cmp k es)) (text_cmp_total.trans k x e.0 before (less (text_cmp x e.0) (first_part _ _ below)))
    ∙ nowhere k x es before (second_part _ _ below)

module _ (k : Text) (before after : Record) (same : (x : Text) → subscriber_of (x, after) ≡ subscriber_of (x, before)) where
  map-put : (es : List (Text × Record)) → T (is_sorted text_cmp es) → find text_cmp k es ≡ Some before → map subscriber_of (put text_cmp k after es) ≡ map subscriber_of es
  map-put [] sorted is = absurd (not_none before is)
  map-put (e ∷ es) sorted is =
      elim (text_cmp k e.0) as (λ o. text_cmp k e.0 ≡ o → map subscriber_of (finite.Entries.by_order o ((k, after) ∷ e ∷ es) ((e.0, after) ∷ es) (e ∷ put text_cmp k after es)) ≡ map subscriber_of (e ∷ es)) [
        | Less ↦ λ r. absurd (not_none before (sym (nowhere k e.0 es r (first_part _ _ sorted)) ∙ past r is))
        | Equal ↦ λ r. ap (λ (s : Subscriber). s ∷ map subscriber_of es) (same e.0 ∙ ap (λ (x : Record). subscriber_of (e.0, x)) (sym (here r is)))
        | Greater ↦ λ r. ap (λ ss. subscriber_of e ∷ ss) (map-put es (second_part _ _ sorted) (after_it r is))
      ] refl
    where
      looked : (o : Ordering) → text_cmp k e.0 ≡ o → find text_cmp k (e ∷ es) ≡ Some before → cond (is_eq o) (Some e.1) (find text_cmp k es) ≡ Some before
      looked o r is = ap (λ p. cond (is_eq p) (Some e.1) (find text_cmp k es)) (sym r) ∙ is

      past : text_cmp k e.0 ≡ Less → find text_cmp k (e ∷ es) ≡ Some before → find text_cmp k es ≡ Some before
      past r is = looked Less r is

      here : text_cmp k e.0 ≡ Equal → find text_cmp k (e ∷ es) ≡ Some before → e.1 ≡ before
      here r is = some_is e.1 before (looked Equal r is)

      after_it : text_cmp k e.0 ≡ Greater → find text_cmp k (e ∷ es) ≡ Some before → find text_cmp k es ≡ Some before
      after_it r is = looked Greater r is

  same_subscribers : (records : Records) → finite.get records k ≡ Some before
      → map subscriber_of (finite.entries (finite.insert records k after)) ≡ map subscriber_of (finite.entries records)
  same_subscribers records is =
      ap (map subscriber_of) (finite.entries-insert text_cmp_total records k after)
      ∙ map-put (finite.entries records) (finite.entries_sorted records) (sym (finite.get-entries records k) ∙ is)

-- settling changes nothing that an assignor sees, nor does what is sent
arrived_same : (r : Record) (e : Epoch) (t : ℕ) (x : Text) → subscriber_of (x, arrived r e t) ≡ subscriber_of (x, r)
arrived_same r Away t x = refl
arrived_same r (At e) t x =
    elim (e == t) as (λ b. subscriber_of (x, cond b (record r { release_deadline = None }) (record r { previous_epoch = e; epoch = At t; release_deadline = None })) ≡ subscriber_of (x, r)) [ true ↦ refl | false ↦ refl ]

asked_same : (r : Record) (o : Option ℕ) (now : ℕ) (x : Text) → subscriber_of (x, asked r o now) ≡ subscriber_of (x, r)
asked_same r None now x = refl
asked_same r (Some deadline) now x = refl

settled_same : (may : Bool) (r : Record) (t now : ℕ) (x : Text) → subscriber_of (x, settled_record may r t now) ≡ subscriber_of (x, r)
settled_same true r t now x = arrived_same r r.epoch t x
settled_same false r t now x = asked_same r r.release_deadline now x

sent_same : (r : Record) (o : Option Partitions) (x : Text) → subscriber_of (x, sent_after r o) ≡ subscriber_of (x, r)
sent_same r None x = refl
sent_same r (Some set) x = refl

abbrev seen : Records → List Subscriber
seen records = map subscriber_of (finite.entries records)

offered_seen : (may : Bool) (h : Group) (m : Text) (o : Option Record) → finite.get h.records m ≡ o → (now : ℕ) → seen (settled_by may h m o now).records ≡ seen h.records
offered_seen may h m None is now = refl
offered_seen may h m (Some r) is now = same_subscribers m r (settled_record may r h.target_epoch now) (settled_same may r h.target_epoch now) h.records is

offered_view : (may : Bool) (h : Group) (m : Text) (o : Option Record) (now : ℕ) → (settled_by may h m o now).view ≡ h.view
offered_view may h m None now = refl
offered_view may h m (Some r) now = refl

offered_target : (may : Bool) (h : Group) (m : Text) (o : Option Record) (now : ℕ) → (settled_by may h m o now).target ≡ h.target
offered_target may h m None now = refl
offered_target may h m (Some r) now = refl

-- ---- what the stages leave

module _ (keep : RenewalsKeepOwners) (g : Group) (a : Arrival) (answer : Answer) (new : Group) (d : Draft) (changed : Group) (stages : machine.Stages changed d a.heartbeat answer new) where
  abbrev Renewed : Group
  Renewed = stages.renewed

  abbrev may : Bool
  may = may_settle Renewed.grants d.id (wanted Renewed.target d.id) (reported a.heartbeat)

  renewed_records : (b : Bool) → RenewsWhere b changed Renewed → Renewed.records ≡ changed.records
  renewed_records true is = ap (λ (x : Group). x.records) is
  renewed_records false (target, is_target, is) = ap (λ (x : Group). x.records) is

  renewed_view : (b : Bool) → RenewsWhere b changed Renewed → Renewed.view ≡ changed.view
  renewed_view true is = ap (λ (x : Group). x.view) is
  renewed_view false (target, is_target, is) = ap (λ (x : Group). x.view) is

  seen_after : seen new.records ≡ seen changed.records
  seen_after =
      ap (λ (x : Group). seen x.records) stages.leaves
      ∙ same_subscribers d.id stages.kept (sent_after stages.kept stages.told) (sent_same stages.kept stages.told) stages.settled.records stages.is_kept
      ∙ ap (λ (x : Group). seen x.records) stages.settles
      ∙ offered_seen may Renewed d.id (finite.get Renewed.records d.id) refl Renewed.clock
      ∙ ap seen (renewed_records (changed.epoch == changed.target_epoch) stages.renews)

  view_after : new.view ≡ changed.view
  view_after =
      ap (λ (x : Group). x.view) stages.leaves ∙ ap (λ (x : Group). x.view) stages.settles
      ∙ offered_view may Renewed d.id (finite.get Renewed.records d.id) Renewed.clock ∙ renewed_view (changed.epoch == changed.target_epoch) stages.renews

  target_after : new.target ≡ Renewed.target
  target_after =
      ap (λ (x : Group). x.target) stages.leaves ∙ ap (λ (x : Group). x.target) stages.settles
      ∙ offered_target may Renewed d.id (finite.get Renewed.records d.id) Renewed.clock

  keeps : changed.target ≡ g.target → ((subs : List Subscriber) → AreMembers new.records subs → FitsMembers new.view subs g.target) → new.target ≡ g.target
  keeps target fits =
      target_after
      ∙ keep changed Renewed stages.renews
      (λ subs are.
      subst (λ view. FitsMembers view subs changed.target) view_after
      (subst (FitsMembers new.view subs) (sym target)
      (fits subs (record { same = subst (λ (xs : List Subscriber). IsPermutation xs subs) (sym seen_after) are.same; sorted = are.sorted }))))
      ∙ target

-- ---- the group that a heartbeat is taken into

module _ (keep : RenewalsKeepOwners) (g : Group) (sound : IsConsistent g) (a : Arrival) (m : Text) (answer : Answer) (new : Group) (n : ℕ) (at : a.heartbeat.epoch ≡ pos n)
    (accepted : IsAcceptedAs m answer) (goes : NobodyGoes g new) (fits : (subs : List Subscriber) → AreMembers new.records subs → FitsMembers new.view subs g.target) where
  same_target : (change : Bool) (h : Group) (view : Topics) → (changed_if change h view).target ≡ h.target
  same_target true h view = refl
  same_target false h view = refl

  base_is : (d : Draft) (drafting : Drafting g a d) → Stages d a.heartbeat answer new → Made g drafting.base a (max g.clock a.moment) d → drafting.base ≡ g
  base_is d drafting stages (of_beat k r epoch there is base was) = base
  base_is d drafting stages (of_rejoin r epoch there is base was) = base
  base_is d drafting stages (of_newcomer epoch none is base was) = base
  base_is d drafting stages (of_heir old i epoch none there asks has is base was) =
      let apart : old.id ≢ d.id = λ same. not_none old.kept (sym none ∙ ap (finite.get g.records) (sym same) ∙ there) in
      let left = goes old.id old.kept there in
      absurd
      (not_none left.0
      (sym (other_record g a answer new d drafting stages old.id apart ∙ ap (λ (x : Group). finite.get x.records old.id) base
      ∙ (handed_to_heir g sound old d.id none (λ same. apart (sym same))).gone)
      ∙ left.1))

  kept : Came g a answer new → new.target ≡ g.target
  kept (unchanged same fails) = absurd (nobody answer fails m accepted)
  kept (has_left r epoch there later answers is) = absurd cc
  kept (went_away r epoch there later answers is) = absurd cc
  kept (taken_in d drafting stages takes) = by (takes.change && nat_le GREATEST_EPOCH g.epoch) takes.step
    where
      by : (b : Bool)
          → ByVerdict (cond b (Refused codes.CoordinatorNotAvailable) Accepted) (machine.Stages (changed_if takes.change d.group (view_for a.image d.group.records)) d a.heartbeat) g answer new
          → new.target ≡ g.target
      by true is = absurd (nobody answer (refusal_fails answer codes.CoordinatorNotAvailable unavailable_is is.0) m accepted)
      by false steps =
          keeps keep g a answer new d (changed_if takes.change d.group (view_for a.image d.group.records)) steps
          (same_target takes.change d.group (view_for a.image d.group.records) ∙ drafting.target ∙ ap (λ (x : Group). x.target) (base_is d drafting stages drafting.made))
          fits

pub heartbeats_keep_owners : RenewalsKeepOwners → HeartbeatsKeepOwners
heartbeats_keep_owners keep g a m answer new n sound step at accepted goes fits =
    kept keep g (consistent g sound) a m answer new n at accepted goes fits (came g (consistent g sound) a answer new step)
