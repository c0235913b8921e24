-- The code's order of a join or a beat: at a take-over it renames last. Nothing public rests on it: it comes to the same as
-- the machine's order, which renames first.
use Rattle.std.specs.Prelude.{◌≡◌, ℕ, Bool, ◌||◌, max, Option, Some, None}
use Rattle.std.specs.FinMap as finite
use Rattle.group_types.specs.declared.stamp.Stamp.{Stamp}
use Rattle.group_types.specs.Text.{Text}
use Rattle.group_types.specs.Sets.{in_order}
use Rattle.group_types.specs.Partition.{Partitions}
use Rattle.group_types.specs.Topics.{Topics}
use Rattle.group_types.specs.Request.{Heartbeat, is_full, reported}
use Rattle.group_types.specs.Owners.{renamed}
use Rattle.group_types.specs.Group.{Record, Group, held}
use Rattle.group_types.specs.Members.{members_of, with_members, taken_over}
use Rattle.group_types.specs.Settle.{Settles, grants_of_others, granting}
use Rattle.group_types.specs.Renewal.{IsChange, Renews, changed_if, view_for}
use Rattle.group_types.specs.Join.{Name, record_of_join}
use Rattle.group_types.specs.Checks.{Member, Sender}
use Rattle.group_types.specs.HeartbeatStep.{Answer, Arrival, ByVerdict, Replied, acceptance, assignment_of, is_news, sent_after, shown, verdict_on_change, with_record_at}

-- who takes over, and the last stamp under the old id
pub record Heir : Type 0 where
  pub id : Text
  pub last : Stamp

-- a draft whose record still stands under the old id at a take-over
pub record LateDraft : Type 0 where
  pub group : Group
  pub id : Text
  pub before : Option Record
  pub after : Record
  pub heir : Option Heir

abbrev pub late_draft : Group → ℕ → Text → Option Record → Record → Option Heir → LateDraft
late_draft g now m before after heir =
    record { group = with_record_at g now m after; id = m; before = before; after = after; heir = heir }

abbrev pub late_draft_of_join : Group → ℕ → Text → Option Record → Option Member → Heartbeat → Stamp → LateDraft
late_draft_of_join g now m (Some r) other q stamp = late_draft g now m (Some r) (record_of_join (Some r) q stamp now) None
late_draft_of_join g now m None None q stamp = late_draft g now m None (record_of_join None q stamp now) None
late_draft_of_join g now m None (Some old) q stamp =
    late_draft g now old.id (Some old.kept) (record_of_join (Some old.kept) q stamp now) (Some (record { id = m; last = old.kept.stamp }))

abbrev pub late_draft_under : Name → Sender → Group → Arrival → LateDraft
late_draft_under name sender g a =
    late_draft_of_join (record g { serial = name.next_serial }) (max g.clock a.moment) name.id sender.own sender.other a.heartbeat a.stamp

-- a member has the record, or its heir has it, and the old id's target and grants
abbrev pub renamed_last : Group → Text → Record → Option Heir → Group
renamed_last g old r None = record g { records = finite.insert g.records old r }
renamed_last g old r (Some heir) =
    record (with_members g (taken_over (members_of g) old heir.id r heir.last)) {
      target = renamed g.target old heir.id;
      grants = granting (grants_of_others g.grants old) heir.id (in_order (held g.grants old));
    }

-- the id that the reply says
abbrev pub heir_or : Text → Option Heir → Text
heir_or m None = m
heir_or m (Some heir) = heir.id

-- the machine's stages, with the renaming after them
pub record LateStages (changed : Group) (d : LateDraft) (q : Heartbeat) (answer : Answer) (new : Group) : Type 0 where
  pub renewed : Group
  pub renews : Renews changed renewed
  pub settled : Group
  pub settles : Settles renewed d.id (reported q) settled
  pub kept : Record
  pub is_kept : finite.get settled.records d.id ≡ Some kept
  pub told : Option Partitions
  pub tells : told ≡ assignment_of (is_full q || is_news kept.sent (shown settled d.id)) (shown settled d.id)
  pub answers : answer ≡ Replied (acceptance (heir_or d.id d.heir) kept told)
  pub leaves : new ≡ renamed_last settled d.id (sent_after kept told) d.heir

pub record TakesInLate (g : Group) (d : LateDraft) (q : Heartbeat) (image : Topics) (answer : Answer) (new : Group) : Type 0 where
  pub change : Bool
  pub is_change : IsChange change d.before d.after g.view (view_for image d.group.records)
  pub step : ByVerdict (verdict_on_change change g.epoch) (LateStages (changed_if change d.group (view_for image d.group.records)) d q) g answer new
