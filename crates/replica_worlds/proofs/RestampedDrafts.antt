-- What comes of a draft, with other stamps.
use Rattle.std.proofs.Common.{◌≡◌, ℕ, ◌==◌, Bool, true, false, List, [], ◌∷◌, map, max, Option, Some, None, IsPermutation, refl, sym, ap, subst, ◌∙◌}
use Rattle.std.specs.List.{list_any}
use Rattle.std.specs.Option.{option_map}
use Rattle.std.specs.FinMap as finite
use Rattle.group_types.specs.declared.epoch.Epoch.{Epoch}
use Rattle.group_types.specs.declared.epoch.Epoch.TheVariants.{At, Away}
use Rattle.group_types.specs.declared.stamp.Stamp.{Stamp}
use Rattle.group_types.specs.Text.{Text}
use Rattle.group_types.specs.Sets.{has, in_order}
use Rattle.group_types.specs.Partition.{Partitions}
use Rattle.group_types.specs.Topics.{Topics}
use Rattle.group_types.specs.Request.{Heartbeat, reported}
use Rattle.group_types.specs.MemberId.{made_id}
use Rattle.group_types.specs.Owners.{renamed}
use Rattle.group_types.specs.Assignors.{Subscriber}
use Rattle.group_types.specs.Group.{Group, Record, Records, Target, held, wanted}
use Rattle.group_types.specs.Members.{members_of, with_members}
use Rattle.group_types.specs.Join.{IsNamed, IsSerial, Name, record_of_beat, record_of_join}
use Rattle.group_types.specs.Settle.{arrived, asked, grants_after, grants_of_others, granting, may_settle, settled, settled_by, settled_record}
use Rattle.group_types.specs.Renewal.{IsChange, IsTarget, RenewsWhere, changed_if, is_subscribed, subscriber_of, view_for}
use Rattle.group_types.specs.Checks.{Accepted, Member, Overtaken, Refused, Sender, Verdict}
use Rattle.group_types.specs.HeartbeatStep.{Answer, Arrival, ByVerdict, Draft, Stages, TakesIn, draft_of, draft_of_beat, draft_of_join, draft_under, handed_over, sent_after, verdict_on_change, with_record_at}
use Rattle.group_types.proofs.ListLemmas.{list_any-map}
use Rattle.replica_worlds.proofs.WithValues.{entries_changed, get_changed, insert_changed, map_changed, pushed, values_changed}
use Rattle.replica_worlds.proofs.RestampedMembers.{group_of, member_as, record_of, records_of, remembered_as, sender_as, taken_over_as, with_record_as}

module _ (other : Stamp → Stamp) where
  abbrev pub draft_as : Draft → Draft
  draft_as d = record { group = group_of other d.group; id = d.id; before = option_map (record_of other) d.before; after = record_of other d.after }

  abbrev pub arrival_as : Arrival → Arrival
  arrival_as a = record a { stamp = other a.stamp }

  -- ---- the draft

  with_record_at_as : (g : Group) (now : ℕ) (m : Text) (r : Record) → group_of other (with_record_at g now m r) ≡ with_record_at (group_of other g) now m (record_of other r)
  with_record_at_as g now m r = λ i. with_members (record g { clock = now }) (with_record_as other (members_of g) m r i)

  draft_of_as : (g : Group) (now : ℕ) (m : Text) (before : Option Record) (after : Record)
      → draft_as (draft_of g now m before after) ≡ draft_of (group_of other g) now m (option_map (record_of other) before) (record_of other after)
  draft_of_as g now m before after =
      λ i. record { group = with_record_at_as g now m after i; id = m; before = option_map (record_of other) before; after = record_of other after }

  pub draft_of_beat_as : (g : Group) (now : ℕ) (r : Record) (q : Heartbeat) (stamp : Stamp)
      → draft_as (draft_of_beat g now r q stamp) ≡ draft_of_beat (group_of other g) now (record_of other r) q (other stamp)
  draft_of_beat_as g now r q stamp = draft_of_as g now q.member (Some r) (record_of_beat r q stamp now)

  handed_over_as : (g : Group) (old : Member) (heir : Text) → group_of other (handed_over g old heir) ≡ handed_over (group_of other g) (member_as other old) heir
  handed_over_as g old heir =
      λ i. record (with_members g (taken_over_as other (members_of g) old.id heir old.kept old.kept.stamp i)) {
        target = renamed g.target old.id heir;
        grants = granting (grants_of_others g.grants old.id) heir (in_order (held g.grants old.id));
      }

  draft_of_join_as : (g : Group) (now : ℕ) (m : Text) (own : Option Record) (o : Option Member) (q : Heartbeat) (stamp : Stamp)
      → draft_as (draft_of_join g now m own o q stamp) ≡ draft_of_join (group_of other g) now m (option_map (record_of other) own) (option_map (member_as other) o) q (other stamp)
  draft_of_join_as g now m (Some r) o q stamp = draft_of_as g now m (Some r) (record_of_join (Some r) q stamp now)
  draft_of_join_as g now m None None q stamp = draft_of_as g now m None (record_of_join None q stamp now)
  draft_of_join_as g now m None (Some old) q stamp =
      draft_of_as (handed_over g old m) now m (Some old.kept) (record_of_join (Some old.kept) q stamp now)
      ∙ ap (λ (x : Group). draft_of x now m (Some (record_of other old.kept)) (record_of_join (Some (record_of other old.kept)) q (other stamp) now)) (handed_over_as g old m)

  pub draft_under_as : (n : Name) (sender : Sender) (g : Group) (a : Arrival)
      → draft_as (draft_under n sender g a) ≡ draft_under n (sender_as other sender) (group_of other g) (arrival_as a)
  draft_under_as n sender g a =
      draft_of_join_as (record g { serial = n.next_serial }) (max g.clock a.moment) n.id sender.own sender.other a.heartbeat a.stamp

  -- ---- the id

  serial_as : (g : Group) (serial : Option ℕ) → IsSerial g serial → IsSerial (group_of other g) serial
  serial_as g None is = λ k from below. remembered_as other (members_of g) (made_id g.salt k) ∙ is k from below
  serial_as g (Some n) is =
      record {
        from = is.from;
        below = is.below;
        fresh = remembered_as other (members_of g) (made_id g.salt n) ∙ is.fresh;
        first = λ k from below. remembered_as other (members_of g) (made_id g.salt k) ∙ is.first k from below;
      }

  pub named_as : (g : Group) (m : Text) (name : Option Name) → IsNamed g m name → IsNamed (group_of other g) m name
  named_as g [] name (serial, is, named) = (serial, serial_as g serial is, named)
  named_as g (c ∷ m) name named = named

  -- ---- the change

  subscribed_as : (records : Records) (name : Text) → is_subscribed (records_of other records) name ≡ is_subscribed records name
  subscribed_as records name =
      ap (list_any (λ (r : Record). has r.names name)) (values_changed (record_of other) records)
      ∙ list_any-map (record_of other) (λ (r : Record). has r.names name) (finite.values records)

  view_as : (image : Topics) (records : Records) → view_for image (records_of other records) ≡ view_for image records
  view_as image records = λ i. finite.retain_keys image (λ name. subscribed_as records name i)

  change_as : (change : Bool) (before : Option Record) (after : Record) (stored present : Topics) → IsChange change before after stored present
      → IsChange change (option_map (record_of other) before) (record_of other after) stored present
  change_as true None after stored present is = is
  change_as false None after stored present is = is
  change_as true (Some before) after stored present is = λ same. is (record { names = same.names; assignor = same.assignor; view = same.view })
  change_as false (Some before) after stored present is = record { names = is.names; assignor = is.assignor; view = is.view }

  changed_if_as : (change : Bool) (g : Group) (view : Topics) → group_of other (changed_if change g view) ≡ changed_if change (group_of other g) view
  changed_if_as true g view = refl
  changed_if_as false g view = refl

  -- ---- the target

  pub subscribers_as : (records : Records) → map subscriber_of (finite.entries (records_of other records)) ≡ map subscriber_of (finite.entries records)
  subscribers_as records =
      ap (map subscriber_of) (entries_changed (record_of other) records) ∙ map_changed (record_of other) subscriber_of (λ e. refl) (finite.entries records)

  target_as : (records : Records) (view : Topics) (former target : Target) → IsTarget records view former target → IsTarget (records_of other records) view former target
  target_as records view former target (subs, members, owners) = (
    subs,
    record { same = subst (λ (xs : List Subscriber). IsPermutation xs subs) (sym (subscribers_as records)) members.same; sorted = members.sorted },
    owners,
  )

  renews_where_as : (b : Bool) (g new : Group) → RenewsWhere b g new → RenewsWhere b (group_of other g) (group_of other new)
  renews_where_as true g new is = ap (group_of other) is
  renews_where_as false g new (target, is_target, is) = (target, target_as g.records g.view g.target target is_target, ap (group_of other) is)

  -- ---- the member is settled

  arrived_as : (r : Record) (epoch : Epoch) (t : ℕ) → record_of other (arrived r epoch t) ≡ arrived (record_of other r) epoch t
  arrived_as r Away t = refl
  arrived_as r (At e) t = pushed (record_of other) (e == t) (record r { release_deadline = None }) (record r { previous_epoch = e; epoch = At t; release_deadline = None })

  asked_as : (r : Record) (deadline : Option ℕ) (now : ℕ) → record_of other (asked r deadline now) ≡ asked (record_of other r) deadline now
  asked_as r None now = refl
  asked_as r (Some deadline) now = refl

  settled_record_as : (may : Bool) (r : Record) (target_epoch now : ℕ) → record_of other (settled_record may r target_epoch now) ≡ settled_record may (record_of other r) target_epoch now
  settled_record_as true r target_epoch now = arrived_as r r.epoch target_epoch
  settled_record_as false r target_epoch now = asked_as r r.release_deadline now

  settled_by_as : (may : Bool) (g : Group) (m : Text) (o : Option Record) (now : ℕ) → group_of other (settled_by may g m o now) ≡ settled_by may (group_of other g) m (option_map (record_of other) o) now
  settled_by_as may g m None now = refl
  settled_by_as may g m (Some r) now =
      let records : records_of other (finite.insert g.records m (settled_record may r g.target_epoch now)) ≡ finite.insert (records_of other g.records) m (settled_record may (record_of other r) g.target_epoch now) =
      insert_changed (record_of other) g.records m (settled_record may r g.target_epoch now)
      ∙ ap (finite.insert (records_of other g.records) m) (settled_record_as may r g.target_epoch now)
      in
      λ i. record (group_of other g) { grants = grants_after may g.grants m (wanted g.target m); records = records i }

  settled_as : (g : Group) (m : Text) (owned : Option Partitions) (now : ℕ) → group_of other (settled g m owned now) ≡ settled (group_of other g) m owned now
  settled_as g m owned now =
      settled_by_as (may_settle g.grants m (wanted g.target m) owned) g m (finite.get g.records m) now
      ∙ ap (λ (o : Option Record). settled_by (may_settle g.grants m (wanted g.target m) owned) (group_of other g) m o now) (sym (get_changed (record_of other) g.records m))

  -- ---- the stages

  sent_after_as : (r : Record) (told : Option Partitions) → record_of other (sent_after r told) ≡ sent_after (record_of other r) told
  sent_after_as r None = refl
  sent_after_as r (Some set) = refl

  told_as : (g : Group) (id : Text) (kept : Record) (told : Option Partitions)
      → group_of other (record g { records = finite.insert g.records id (sent_after kept told) }) ≡ record (group_of other g) { records = finite.insert (records_of other g.records) id (sent_after (record_of other kept) told) }
  told_as g id kept told =
      let records : records_of other (finite.insert g.records id (sent_after kept told)) ≡ finite.insert (records_of other g.records) id (sent_after (record_of other kept) told) =
      insert_changed (record_of other) g.records id (sent_after kept told) ∙ ap (finite.insert (records_of other g.records) id) (sent_after_as kept told)
      in
      λ i. record (group_of other g) { records = records i }

  stages_as : (changed : Group) (d : Draft) (q : Heartbeat) (answer : Answer) (new : Group) → Stages changed d q answer new
      → Stages (group_of other changed) (draft_as d) q answer (group_of other new)
  stages_as changed d q answer new s =
      record {
        renewed = group_of other s.renewed;
        renews = renews_where_as (changed.epoch == changed.target_epoch) changed s.renewed s.renews;
        settled = group_of other s.settled;
        settles = ap (group_of other) s.settles ∙ settled_as s.renewed d.id (reported q) s.renewed.clock;
        kept = record_of other s.kept;
        is_kept = get_changed (record_of other) s.settled.records d.id ∙ ap (option_map (record_of other)) s.is_kept;
        told = s.told;
        tells = s.tells;
        answers = s.answers;
        leaves = ap (group_of other) s.leaves ∙ told_as s.settled d.id s.kept s.told;
      }

  -- ---- a draft is taken in

  pub by_verdict_as : (v : Verdict) (One Another : Answer → Group → Type 0) → ((answer : Answer) (new : Group) → One answer new → Another answer (group_of other new))
      → (g : Group) (answer : Answer) (new : Group) → ByVerdict v One g answer new → ByVerdict v Another (group_of other g) answer (group_of other new)
  by_verdict_as Accepted One Another so g answer new is = so answer new is
  by_verdict_as (Refused code) One Another so g answer new is = (is.0, ap (group_of other) is.1)
  by_verdict_as Overtaken One Another so g answer new is = (is.0, ap (group_of other) is.1)

  pub takes_in_as : (g : Group) (d : Draft) (q : Heartbeat) (image : Topics) (answer : Answer) (new : Group) → TakesIn g d q image answer new
      → TakesIn (group_of other g) (draft_as d) q image answer (group_of other new)
  takes_in_as g d q image answer new t =
      let view : view_for image d.group.records ≡ view_for image (records_of other d.group.records) = sym (view_as image d.group.records) in
      let changed : group_of other (changed_if t.change d.group (view_for image d.group.records)) ≡ changed_if t.change (group_of other d.group) (view_for image (records_of other d.group.records)) =
      changed_if_as t.change d.group (view_for image d.group.records) ∙ ap (changed_if t.change (group_of other d.group)) view
      in
      record {
        change = t.change;
        is_change = subst (IsChange t.change (option_map (record_of other) d.before) (record_of other d.after) g.view) view
            (change_as t.change d.before d.after g.view (view_for image d.group.records) t.is_change);
        step = by_verdict_as (verdict_on_change t.change g.epoch)
            (Stages (changed_if t.change d.group (view_for image d.group.records)) d q)
            (Stages (changed_if t.change (group_of other d.group) (view_for image (records_of other d.group.records))) (draft_as d) q)
            (λ x y is. subst (λ (z : Group). Stages z (draft_as d) q x (group_of other y)) changed (stages_as (changed_if t.change d.group (view_for image d.group.records)) d q x y is))
            g answer new t.step;
      }
