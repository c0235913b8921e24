-- One heartbeat at one group: what is answered, and the group afterwards (KIP-848, "Consumer Group Heartbeat").
use Rattle.std.specs.Prelude.{◌≡◌, ℕ, ℤ, pos, Bool, true, false, not, ◌||◌, ◌&&◌, if◌then◌else◌, nat_le, max, Option, Some, None, MatchOption}
use Rattle.std.specs.FinMap as finite
use Rattle.group_types.specs.declared.code.Code.{Code}
use Rattle.group_types.specs.declared.code.Code.TheVariants as codes
use Rattle.group_types.specs.declared.epoch.Epoch.{Epoch}
use Rattle.group_types.specs.declared.epoch.Epoch.TheVariants.{At, Away}
use Rattle.group_types.specs.declared.stamp.Stamp.{Stamp}
use Rattle.group_types.specs.Text.{Text}
use Rattle.group_types.specs.Sets.{common, are_same, in_order}
use Rattle.group_types.specs.Partition.{Partitions}
use Rattle.group_types.specs.Topics.{Topics}
use Rattle.group_types.specs.Limits.{GREATEST_EPOCH, HEARTBEAT_INTERVAL}
use Rattle.group_types.specs.Request.{Heartbeat, Kind, Joins, Beats, Leaves, GoesAway, MeansNothing, LEAVES_AT, GOES_AWAY_AT, kind_of, is_full, reported}
use Rattle.group_types.specs.Owners.{renamed}
use Rattle.group_types.specs.Group.{Record, Group, wanted, held}
use Rattle.group_types.specs.Members.{members_of, with_members, with_record, taken_over}
use Rattle.group_types.specs.Settle.{Settles, grants_of_others, granting}
use Rattle.group_types.specs.Renewal.{view_for, IsChange, changed_if, Renews}
use Rattle.group_types.specs.Join.{Name, IsNamed, record_of_join, record_of_beat}
use Rattle.group_types.specs.Leave.{left, gone_away}
use Rattle.group_types.specs.Checks.{Verdict, Accepted, Refused, Overtaken, Member, Sender, sender_of, verdict_on}

-- a heartbeat as it comes to a group
pub record Arrival : Type 0 where
  pub heartbeat : Heartbeat
  pub stamp : Stamp
  pub moment : ℕ
  pub image : Topics  -- that the node has

-- ---- the drafts

-- the group with a heartbeat's record in it, before anything else comes of it
pub record Draft : Type 0 where
  pub group : Group
  pub id : Text  -- under which the record stands
  pub before : Option Record  -- as it was; none of a new member
  pub after : Record

-- the group at a moment, with a member's record
abbrev pub with_record_at : Group → ℕ → Text → Record → Group
with_record_at g now m r = with_members (record g { clock = now }) (with_record (members_of g) m r)

abbrev pub draft_of : Group → ℕ → Text → Option Record → Record → Draft
draft_of g now m before after =
    record { group = with_record_at g now m after; id = m; before = before; after = after }

abbrev pub draft_of_beat : Group → ℕ → Record → Heartbeat → Stamp → Draft
draft_of_beat g now r q stamp = draft_of g now q.member (Some r) (record_of_beat r q stamp now)

-- KIP-848, "Static Membership": an id that takes over has the other member's record, target and grants; the other id is
-- a former member's.
abbrev pub handed_over : Group → Member → Text → Group
handed_over g old heir =
    record (with_members g (taken_over (members_of g) old.id heir old.kept old.kept.stamp)) {
      target = renamed g.target old.id heir;
      grants = granting (grants_of_others g.grants old.id) heir (in_order (held g.grants old.id));
    }

-- By the member's own record, and another member that has its instance: it rejoins, it is new, or it takes over.
abbrev pub draft_of_join : Group → ℕ → Text → Option Record → Option Member → Heartbeat → Stamp → Draft
draft_of_join g now m (Some r) other q stamp = draft_of g now m (Some r) (record_of_join (Some r) q stamp now)
draft_of_join g now m None None q stamp = draft_of g now m None (record_of_join None q stamp now)
draft_of_join g now m None (Some old) q stamp =
    draft_of (handed_over g old m) now m (Some old.kept) (record_of_join (Some old.kept) q stamp now)

-- ---- the reply

-- a reply, without its bytes
pub record Reply : Type 0 where
  pub code : Code
  pub member : Option Text
  pub epoch : ℤ
  pub interval : ℤ  -- milliseconds to the next heartbeat
  pub assignment : Option Partitions

pub data Answer : Type 0 where
  Replied : Reply → Answer
  Closes : Answer  -- no reply: the connection is closed

abbrev pub refusal : Code → Reply
refusal code = record { code = code; member = None; epoch = pos 0; interval = pos 0; assignment = None }

-- to a member that leaves, with the member epoch of its heartbeat
abbrev pub farewell : Text → ℤ → Reply
farewell m epoch = record { code = codes.NoError; member = Some m; epoch = epoch; interval = pos 0; assignment = None }

-- what a member is shown: what it holds of its target
abbrev pub shown : Group → Text → Partitions
shown g m = common (held g.grants m) (wanted g.target m)

abbrev pub is_news : Option Partitions → Partitions → Bool
is_news None set = true
is_news (Some sent) set = not (are_same sent set)

-- An assignment stands in the reply where the heartbeat was full or the shown set isn't the one last sent (ours).
abbrev pub assignment_of : Bool → Partitions → Option Partitions
assignment_of true set = Some set
assignment_of false set = None

abbrev pub sent_after : Record → Option Partitions → Record
sent_after r None = r
sent_after r (Some set) = record r { sent = Some set }

abbrev pub epoch_number : Epoch → ℤ
epoch_number (At e) = pos e
epoch_number Away = GOES_AWAY_AT

abbrev pub acceptance : Text → Record → Option Partitions → Reply
acceptance m r assignment =
    record { code = codes.NoError; member = Some m; epoch = epoch_number r.epoch; interval = HEARTBEAT_INTERVAL; assignment = assignment }

-- ---- the stages of a join or a beat

-- What comes of a draft that is accepted, from the group with its change on: the target is renewed, the member is
-- settled, and it is told what it holds of its target.
pub record Stages (changed : Group) (d : Draft) (q : Heartbeat) (answer : Answer) (new : Group) : Type 0 where
  pub renewed : Group
  pub renews : Renews changed renewed
  pub settled : Group
  pub settles : Settles renewed d.id (reported q) settled
  pub kept : Record  -- the member's, by then
  pub is_kept : finite.get settled.records d.id ≡ Some kept
  pub told : Option Partitions
  pub tells : told ≡ assignment_of (is_full q || is_news kept.sent (shown settled d.id)) (shown settled d.id)
  pub answers : answer ≡ Replied (acceptance d.id kept told)
  pub leaves : new ≡ record settled { records = finite.insert settled.records d.id (sent_after kept told) }

-- a refusal changes nothing
abbrev pub IsRefused : Code → Group → Answer → Group → Type 0
IsRefused code g answer new = (answer ≡ Replied (refusal code)) × (new ≡ g)

-- nor does an overtaken heartbeat
abbrev pub ByVerdict : Verdict → (Answer → Group → Type 0) → Group → Answer → Group → Type 0
ByVerdict Accepted Accepts g answer new = Accepts answer new
ByVerdict (Refused code) Accepts g answer new = IsRefused code g answer new
ByVerdict Overtaken Accepts g answer new = (answer ≡ Closes) × (new ≡ g)

-- The last check: COORDINATOR_NOT_AVAILABLE where the step is a change and the group epoch can't rise.
abbrev pub verdict_on_change : Bool → ℕ → Verdict
verdict_on_change change epoch =
    if change && nat_le GREATEST_EPOCH epoch then Refused codes.CoordinatorNotAvailable else Accepted

-- A draft is taken in where that check lets it, and else nothing changes. The view is that of the present image.
pub record TakesIn (g : Group) (d : Draft) (q : Heartbeat) (image : Topics) (answer : Answer) (new : Group) : Type 0 where
  pub change : Bool
  pub is_change : IsChange change d.before d.after g.view (view_for image d.group.records)
  pub step : ByVerdict (verdict_on_change change g.epoch) (Stages (changed_if change d.group (view_for image d.group.records)) d q) g answer new

-- ---- by the kind of heartbeat

abbrev pub draft_under : Name → Sender → Group → Arrival → Draft
draft_under name sender g a =
    draft_of_join (record g { serial = name.next_serial }) (max g.clock a.moment) name.id sender.own sender.other a.heartbeat a.stamp

-- The member gets its id, and joins under it. The last check, too: COORDINATOR_NOT_AVAILABLE where no serial is left.
pub record JoinsAs (sender : Sender) (g : Group) (a : Arrival) (answer : Answer) (new : Group) : Type 0 where
  pub name : Option Name
  pub is_named : IsNamed g a.heartbeat.member name
  pub joins : MatchOption name (IsRefused codes.CoordinatorNotAvailable g answer new)
      (λ n. TakesIn g (draft_under n sender g a) a.heartbeat a.image answer new)

abbrev pub BeatsWith : Option Record → Group → Arrival → Answer → Group → Type 0
BeatsWith None g a answer new = ⊥
BeatsWith (Some r) g a answer new =
    TakesIn g (draft_of_beat g (max g.clock a.moment) r a.heartbeat a.stamp) a.heartbeat a.image answer new

abbrev pub GoesAwayWith : Option Record → Group → Arrival → Answer → Group → Type 0
GoesAwayWith None g a answer new = ⊥
GoesAwayWith (Some r) g a answer new =
    (answer ≡ Replied (farewell a.heartbeat.member GOES_AWAY_AT))
    × (new ≡ gone_away g a.heartbeat.member r a.stamp a.moment)

abbrev pub StepOf : Kind → Sender → Group → Arrival → Answer → Group → Type 0
StepOf Joins sender g a answer new = JoinsAs sender g a answer new
StepOf (Beats n) sender g a answer new = BeatsWith sender.own g a answer new
StepOf Leaves sender g a answer new =
    (answer ≡ Replied (farewell a.heartbeat.member LEAVES_AT)) × (new ≡ left g a.heartbeat.member a.stamp a.moment)
StepOf GoesAway sender g a answer new = GoesAwayWith sender.own g a answer new
StepOf MeansNothing sender g a answer new = ⊥

abbrev pub StepBy : Kind → Sender → Group → Arrival → Answer → Group → Type 0
StepBy kind sender g a answer new =
    ByVerdict (verdict_on kind sender g a.heartbeat a.stamp) (StepOf kind sender g a) g answer new

abbrev pub HeartbeatStep : Group → Arrival → Answer → Group → Type 0
HeartbeatStep g a answer new =
    StepBy (kind_of a.heartbeat.epoch) (sender_of g.records a.heartbeat) g a answer new
