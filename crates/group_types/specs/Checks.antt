-- The checks of a heartbeat (KIP-848, "ConsumerGroupHeartbeat API"; the order of the checks, the conditions of the one
-- on the previous epoch, and which codes static members meet are ours): the first that applies is the answer.
use Rattle.std.specs.Prelude.{ℕ, Bool, true, false, not, ◌||◌, ◌&&◌, ◌==◌, nat_le, if◌then◌else◌, is_none, List, [], ◌∷◌, ◌++◌, Option, Some, None}
use Rattle.std.specs.List.{list_any, list_all, find}
use Rattle.std.specs.Str.{bytes_eq}
use Rattle.std.specs.Option.{option_map_or, option_map}
use Rattle.std.specs.Ordering.{eq_by_cmp, is_gt}
use Rattle.std.specs.FinMap as finite
use Rattle.group_types.specs.declared.code.Code.{Code}
use Rattle.group_types.specs.declared.code.Code.TheVariants as codes
use Rattle.group_types.specs.declared.epoch.Epoch.{Epoch}
use Rattle.group_types.specs.declared.epoch.Epoch.TheVariants.{At, Away}
use Rattle.group_types.specs.declared.partition.Partition.{Partition}
use Rattle.group_types.specs.declared.stamp.Stamp.{Stamp}
use Rattle.group_types.specs.Limits.{MOST_MEMBERS}
use Rattle.group_types.specs.Text.{Text, text_cmp}
use Rattle.group_types.specs.Sets.{has}
use Rattle.group_types.specs.Stamp.{stamp_cmp}
use Rattle.group_types.specs.Request.{Heartbeat, Kind, Joins, Beats, Leaves, GoesAway, MeansNothing, is_invalid, is_unsupported}
use Rattle.group_types.specs.Group.{Record, Records, Grants, Past, Group}
use Rattle.group_types.specs.Members.{Members, members_of}

-- what the checks of a heartbeat come to
pub data Verdict : Type 0 where
  Accepted : Verdict
  Refused : Code → Verdict
  Overtaken : Verdict  -- no reply: the connection is closed

-- ---- whom a heartbeat is of

-- another member, and its record
pub record Member : Type 0 where
  pub id : Text
  pub kept : Record

pub record Sender : Type 0 where
  pub own : Option Record  -- under the member id that the heartbeat names
  pub other : Option Member  -- another member that has the instance that it names

-- the record under a member id; an empty id names none
abbrev pub record_under : Records → Text → Option Record
record_under records [] = None
record_under records (c ∷ m) = finite.get records (c ∷ m)

abbrev pub has_instance : Text → Option Record → Bool
has_instance instance None = false
has_instance instance (Some r) = option_map_or (λ i. bytes_eq i instance) r.instance false

-- the first id of another member than m that has the instance
abbrev pub other_id_with : Records → Text → Text → Option Text
other_id_with records m instance =
    find (λ n. not (eq_by_cmp text_cmp m n) && has_instance instance (finite.get records n)) (finite.keys records)

abbrev pub member_at : Records → Option Text → Option Member
member_at records None = None
member_at records (Some m) = option_map (λ r. record { id = m; kept = r }) (finite.get records m)

abbrev pub other_with : Records → Text → Option Text → Option Member
other_with records m None = None
other_with records m (Some instance) = member_at records (other_id_with records m instance)

abbrev pub sender_of : Records → Heartbeat → Sender
sender_of records q = record { own = record_under records q.member; other = other_with records q.member q.instance }

-- ---- the checks, one by one

-- the member isn't there, or isn't the one with the instance
abbrev pub is_another : Option Record → Option Text → Bool
is_another own None = true
is_another own (Some instance) = not (has_instance instance own)

-- the stamp doesn't come after the last one
abbrev pub is_late : Stamp → Stamp → Bool
is_late stamp last = not (is_gt (stamp_cmp stamp last))

-- a later heartbeat of the member was accepted before
abbrev pub is_overtaken : Stamp → Option Record → Bool
is_overtaken stamp None = false
is_overtaken stamp (Some r) = is_late stamp r.stamp

-- a later heartbeat was accepted of a former member with this id
abbrev pub is_of_past : Past → Text → Stamp → Bool
is_of_past past m stamp = list_any (λ e. eq_by_cmp text_cmp m e.0 && is_late stamp e.1) past

-- whether partitions are reported, and each is granted to the member
abbrev pub are_granted : Grants → Text → Option (List Partition) → Bool
are_granted grants m None = false
are_granted grants m (Some owned) = list_all (λ p. has grants (m, p)) owned

-- The number is the member epoch, or the one before it where all that is reported is granted. No number is that of a
-- member that is away.
abbrev pub is_current : ℕ → Epoch → ℕ → Bool → Bool
is_current n Away previous granted = false
is_current n (At e) previous granted = e == n || (previous == n && granted)

abbrev pub is_fenced : ℕ → Option Record → Bool → Bool
is_fenced n None granted = false
is_fenced n (Some r) granted = not (is_current n r.epoch r.previous_epoch granted)

abbrev pub is_away : Epoch → Bool
is_away (At e) = false
is_away Away = true

-- A join's instance is another member's that isn't away, or another's at all where the joining one has a record.
abbrev pub is_unreleased : Option Record → Option Member → Bool
is_unreleased own None = false
is_unreleased None (Some other) = not (is_away other.kept.epoch)
is_unreleased (Some r) (Some other) = true

-- a join that neither rejoins nor takes over makes a member, and there are as many as there may be
abbrev pub is_too_many : Option Record → Option Member → ℕ → Bool
is_too_many None None members = nat_le MOST_MEMBERS members
is_too_many None (Some other) members = false
is_too_many (Some r) other members = false

-- ---- all of them, in their order

-- whether a check applies, and what then is the answer
abbrev pub Check : Type 0
Check = Bool × Verdict

abbrev pub first_of : List Check → Verdict
first_of [] = Accepted
first_of (check ∷ checks) = if check.0 then check.1 else first_of checks

-- those on the request alone
abbrev pub request_checks : Kind → Heartbeat → List Check
request_checks Joins q = (is_invalid q, Refused codes.InvalidRequest) ∷ (is_unsupported q, Refused codes.UnsupportedAssignor) ∷ []
request_checks (Beats n) q = (is_invalid q, Refused codes.InvalidRequest) ∷ (is_unsupported q, Refused codes.UnsupportedAssignor) ∷ []
request_checks Leaves q = (is_invalid q, Refused codes.InvalidRequest) ∷ []
request_checks GoesAway q = (is_invalid q, Refused codes.InvalidRequest) ∷ []
request_checks MeansNothing q = (true, Refused codes.InvalidRequest) ∷ []

-- those on the members' records
abbrev pub member_checks : Kind → Sender → Members → Heartbeat → Stamp → List Check
member_checks Joins sender s q stamp =
    (is_overtaken stamp sender.own || is_of_past s.past q.member stamp, Overtaken)
    ∷ (is_unreleased sender.own sender.other, Refused codes.UnreleasedInstanceId)
    ∷ (is_too_many sender.own sender.other (finite.len s.records), Refused codes.GroupMaxSizeReached)
    ∷ []
member_checks (Beats n) sender s q stamp = (is_none sender.own, Refused codes.UnknownMemberId) ∷ (is_overtaken stamp sender.own, Overtaken) ∷ []
member_checks Leaves sender s q stamp = (is_none sender.own, Refused codes.UnknownMemberId) ∷ (is_overtaken stamp sender.own, Overtaken) ∷ []
member_checks GoesAway sender s q stamp =
    (is_another sender.own q.instance, Refused codes.UnknownMemberId) ∷ (is_overtaken stamp sender.own, Overtaken) ∷ []
member_checks MeansNothing sender s q stamp = (is_none sender.own, Refused codes.UnknownMemberId) ∷ (is_overtaken stamp sender.own, Overtaken) ∷ []

-- that on the member epoch
abbrev pub epoch_checks : Kind → Sender → Grants → Heartbeat → List Check
epoch_checks (Beats n) sender grants q = (is_fenced n sender.own (are_granted grants q.member q.owned), Refused codes.FencedMemberEpoch) ∷ []
epoch_checks Joins sender grants q = []
epoch_checks Leaves sender grants q = []
epoch_checks GoesAway sender grants q = []
epoch_checks MeansNothing sender grants q = []

-- By the kind of heartbeat. The last check of a join or a beat, COORDINATOR_NOT_AVAILABLE, stands where each of its
-- reasons is known: the serial and the epoch in HeartbeatStep, the number of groups at the node.
abbrev pub checks_of : Kind → Sender → Group → Heartbeat → Stamp → List Check
checks_of kind sender g q stamp =
    request_checks kind q ++ member_checks kind sender (members_of g) q stamp ++ epoch_checks kind sender g.grants q

abbrev pub verdict_on : Kind → Sender → Group → Heartbeat → Stamp → Verdict
verdict_on kind sender g q stamp = first_of (checks_of kind sender g q stamp)
