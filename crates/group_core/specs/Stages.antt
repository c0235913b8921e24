-- The stages of a join or a beat that is accepted: what each makes of the state.
use Rattle.std.specs.Prelude.{◌≡◌, ◌≤◌, ◌||◌, ℕ, suc, Bool, true, false, Option, Some, None, MatchOption, IfSome, unwrap_or, option_map}
use Rattle.std.specs.FinMap as finite
use Rattle.group_types.specs.declared.partition.Partition.{Partition}
use Rattle.group_types.specs.Text.{Text}
use Rattle.group_types.specs.Topics.{Topics}
use Rattle.group_types.specs.Owners.{Spread}
use Rattle.group_types.specs.Sound.{IsOfView}
use Rattle.group_types.specs.Sets.{nothing, common, size}
use Rattle.group_types.specs.Partition.{Partitions}
use Rattle.group_types.specs.Settle.{grants_after, may_settle, settled_record}
use Rattle.group_types.specs.Group.{Group, Record, Records, Grants, held, wanted}
use Rattle.group_target.specs.TargetState.{TargetState}
use Rattle.group_reconcile.specs.Holders.{pairs}
use Rattle.group_reconcile.specs.Offers.{IsSince}
use Rattle.group_types.specs.declared.stamp.Stamp.{Stamp}
use Rattle.group_types.specs.Request.{Heartbeat, is_full, kind_of}
use Rattle.group_types.specs.Members.{members_of, with_members, with_record}
use Rattle.group_types.specs.HeartbeatStep.{assignment_of, is_news, sent_after, verdict_on_change}
use Rattle.group_core.specs.CodeOrder.{LateDraft, Heir, late_draft, renamed_last}
use Rattle.group_types.specs.declared.code.Code.TheVariants.{CoordinatorNotAvailable}
use Rattle.group_types.specs.Renewal.{IsChange, IsTarget, view_for}
use Rattle.group_types.specs.Checks.{Accepted, Refused, sender_of}
use Rattle.group_types.specs.Join.{IsNamed, Name}
use Rattle.group_epochs.specs.Records.{IsInstanceFreeFor}
use Rattle.group_epochs.specs.Drafts.{CanStore, drafted, drafted_in, placed_heir}
use Rattle.group_core.specs.declared.state.State.{State}
use Rattle.group_core.specs.declared.draft.Draft.{Draft as Drafted}
use Rattle.group_core.specs.declared.naming.Name.{Name as Given}
use Rattle.group_core.specs.declared.change.Renewal.{Renewal}
use Rattle.group_core.specs.declared.plan.Plan.{Plan}
use Rattle.group_core.specs.declared.place.Successor.{Successor}
use Rattle.group_types.specs.Limits.{MOST_PARTITIONS}
use Rattle.group_core.specs.GroupView.{group_of}

-- a name of the code as the machine's
abbrev pub name_in : Option Given → Option Name
name_in name = option_map (λ n. record { id = n.id; next_serial = suc n.ids_made }) name

-- who takes over a draft's record, if anybody does
abbrev pub heir_id : Drafted → Option Text
heir_id d = placed_heir d.member.place

-- the id of the member whose heartbeat it is: the heir's at a take-over
abbrev pub told_id : Drafted → Text
told_id d = unwrap_or (heir_id d) d.member.id

-- who takes over a record, with the record's stamp
abbrev pub heir_of : Option Record → Option Text → Option Heir
heir_of None heir = None
heir_of (Some r) heir = option_map (λ m. record { id = m; last = r.stamp }) heir

-- the draft as the machine's, at a moment: where its id has a record it has it in place of that
abbrev pub draft_in : Group → Drafted → ℕ → LateDraft
draft_in g d now =
    let before = finite.get g.records d.member.id in
    late_draft (record g { serial = suc d.ids_made }) now d.member.id before d.member.record (heir_of before (heir_id d))

-- a draft for which there is room, and whose instance is no other member's
pub record IsFit (s : State) (d : Drafted) : Type 0 where
  pub room : CanStore s.records d.member.id d.member.record d.member.place
  pub instance : IsInstanceFreeFor s.records.records d.member.id d.member.record

-- the draft of a join or a beat, at a moment: it has a name, and the records drafted it under that
pub record IsDraft (g : Group) (q : Heartbeat) (stamp : Stamp) (now : ℕ) (d : Drafted) : Type 0 where
  pub name : Name
  pub is_named : IsNamed g q.member (Some name)
  pub serial : name.next_serial ≡ suc d.ids_made
  pub drafted : drafted_in d.member ≡ drafted (kind_of q.epoch) (sender_of g.records q).own (sender_of g.records q).other name.id q stamp now

-- the group epoch after a step that is a change, or is none
abbrev pub epoch_if : Bool → ℕ → ℕ
epoch_if true epoch = suc epoch
epoch_if false epoch = epoch

-- all that is owned is of the view
abbrev pub AreOfView : Spread → Topics → Type 0
AreOfView owners view = (p : Partition) (m : Text) → finite.get owners p ≡ Some m → IsOfView view p

-- the group with a draft and its renewal
abbrev pub renewed_by : State → Drafted → ℕ → Renewal → Group
renewed_by s d now r =
    let target = unwrap_or r.target s.target in
    record (draft_in (group_of s) d now).group {
      epoch = r.epoch;
      view = r.view;
      target = target.owners;
      target_epoch = target.epoch;
    }

-- ---- the change and the renewal

-- the records with the draft's
abbrev pub records_with : State → Drafted → Records
records_with s d = finite.insert s.records.records d.member.id d.member.record

-- the step is a change, or none, and the last check lets it
pub record IsRenewalOf (s : State) (d : Drafted) (image : Topics) (r : Renewal) : Type 0 where
  pub change : Bool
  pub is_change : IsChange change (finite.get s.records.records d.member.id) d.member.record s.view r.view
  pub rises : verdict_on_change change s.epoch ≡ Accepted
  pub epoch : r.epoch ≡ epoch_if change s.epoch
  pub view : r.view ≡ view_for image (records_with s d)
  -- the target is renewed where its epoch isn't the group's
  pub target : MatchOption r.target (r.epoch ≡ s.target.epoch)
      (λ t. (¬ (r.epoch ≡ s.target.epoch)) × (t.epoch ≡ r.epoch) × IsTarget (records_with s d) r.view s.target.owners t.owners)

-- the step is a change, and the last check refuses it
pub record CannotRise (s : State) (d : Drafted) (image : Topics) : Type 0 where
  pub change : Bool
  pub is_change : IsChange change (finite.get s.records.records d.member.id) d.member.record s.view (view_for image (records_with s d))
  pub stuck : verdict_on_change change s.epoch ≡ Refused CoordinatorNotAvailable

-- ---- the settling

-- the target that a renewal leaves
abbrev pub target_then : State → Renewal → TargetState
target_then s r = unwrap_or r.target s.target

-- the member's part of it
abbrev pub part_of : State → Drafted → Renewal → Partitions
part_of s d r = wanted (target_then s r).owners d.member.id

-- whether the member may move on to it
abbrev pub moves : State → Drafted → Renewal → Option Partitions → Bool
moves s d r owned = may_settle (pairs s.grants) d.member.id (part_of s d r) owned

-- the record, where it moves or does not
abbrev pub record_after : State → Drafted → Renewal → Bool → ℕ → Record
record_after s d r moves now = settled_record moves d.member.record (target_then s r).epoch now

abbrev pub record_then : State → Drafted → Renewal → Option Partitions → ℕ → Record
record_then s d r owned now = record_after s d r (moves s d r owned) now

abbrev pub grants_then : State → Drafted → Renewal → Option Partitions → Grants
grants_then s d r owned = grants_after (moves s d r owned) (pairs s.grants) d.member.id (part_of s d r)

-- what the member is shown
abbrev pub shown_then : State → Drafted → Renewal → Option Partitions → Partitions
shown_then s d r owned = common (held (grants_then s d r owned) d.member.id) (part_of s d r)

-- the assignment in the reply, where one is said
abbrev pub assignment_then : State → Drafted → Renewal → Heartbeat → Option Partitions → Option Partitions
assignment_then s d r q owned =
    let shown = shown_then s d r owned in
    assignment_of (is_full q || is_news d.member.record.sent shown) shown

-- ---- the end: the record is stored

-- a member's record stands under its id, or its heir has it
abbrev pub stored_in : Group → Text → Record → Option Heir → Group
stored_in g m r None = with_members g (with_record (members_of g) m r)
stored_in g m r (Some heir) = renamed_last g m r (Some heir)

-- the group with all that comes of a draft and its renewal, but for the record and the grants
abbrev pub carried : State → Drafted → ℕ → Renewal → Group
carried s d now r =
    record (group_of s) {
      epoch = r.epoch;
      view = r.view;
      target = (target_then s r).owners;
      target_epoch = (target_then s r).epoch;
      clock = now;
      serial = suc d.ids_made;
    }

-- the heir of a draft
abbrev pub heir_in : State → Drafted → Option Heir
heir_in s d = heir_of (finite.get s.records.records d.member.id) (heir_id d)

-- the group once the member is settled and was sent a set, or none
abbrev pub group_then : State → Drafted → ℕ → Renewal → Option Partitions → Option Partitions → Group
group_then s d now r owned sent =
    stored_in (record (carried s d now r) { grants = grants_then s d r owned }) d.member.id (sent_after (record_then s d r owned now) sent) (heir_in s d)

-- the member owns nothing in the target, and holds nothing
pub record HasNothing (owners : Spread) (grants : Grants) (m : Text) : Type 0 where
  pub owns : (p : Partition) → ¬ (finite.get owners p ≡ Some m)
  pub holds : held grants m ≡ nothing

-- ---- what is made before it

-- the member was offered its part of the target that a renewal leaves, and moves or not; of the state only the grants have changed
pub record IsOffered (s : State) (d : Drafted) (r : Renewal) (owned : Option Partitions) (does_move : Bool) (new : State) : Type 0 where
  pub move : does_move ≡ moves s d r owned
  pub state : new ≡ record s { grants = new.grants }
  pub grants : pairs new.grants ≡ grants_then s d r owned
  pub since : IsSince s.grants new.grants d.member.id (target_then s r).epoch

-- an heir, for the target and the grants
abbrev pub IsSuccessor : Option Successor → Option Text → Type 0
IsSuccessor None heir = heir ≡ None
IsSuccessor (Some s) heir = (heir ≡ Some s.in_target) × (heir ≡ Some s.in_grants)

-- of a draft, its renewal and what is reported: the id, the assignment that is said, if any, and the heir
pub record IsPlan (s : State) (d : Drafted) (r : Renewal) (q : Heartbeat) (owned : Option Partitions) (p : Plan) : Type 0 where
  pub id : p.id ≡ told_id d
  pub assignment : p.assignment ≡ assignment_then s d r q owned
  pub sent : p.sent ≡ p.assignment
  pub few : IfSome p.assignment (λ set. size set ≤ MOST_PARTITIONS)
  pub successor : IsSuccessor p.successor (heir_id d)
