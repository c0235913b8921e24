-- What a replica that leads proposes as the next entries of the log.
use Rattle.std.specs.Prelude.{◌≡◌, ℕ, ◌+◌, ◌-◌, ◌^◌, ◌<◌, ◌≤◌, min, max, unwrap_or, List, ◌++◌, Option, Some, None, IsSome, IfSome, ⊤}
use Rattle.std.specs.declared.cmp.Ordering.TheVariants.{Less}
use Rattle.group_types.specs.declared.stamp.Stamp.{Stamp}
use Rattle.group_types.specs.Stamp.{stamp_cmp}
use Rattle.replica_entries.specs.Values.{ContentValue, EntryValue, frame, leads}
use Rattle.replica_entries.specs.Spelling.{FitsEntry, entry_fields}
use Rattle.replica_entries.specs.Misfits.{Misfits}
use Rattle.coord_replica.specs.declared.leading.Leading.{Leading}
use Rattle.coord_replica.specs.declared.fault.ReplicaFault.{ReplicaFault}
use Rattle.coord_replica.specs.declared.fault.ReplicaFault.TheVariants.{NoMemory, OutOfPlace, OtherLeadership, EarlierMoment, NotLeading, BadEntry, BadTopics}
use Rattle.coord_replica.specs.Entries.{event_of, moment_in, stamp_under}
use Rattle.coord_replica.specs.Applying.{topics_fault}
use Rattle.coord_replica.specs.Replicas.{ReplicaState}

-- the greatest moment that an entry has (ours)
abbrev pub GREATEST_MOMENT : ℕ
GREATEST_MOMENT = 2 ^ 63 - 1

-- A leader's time goes on from the greatest moment that the log had when it began to lead, by its own clock (ours).
abbrev pub moment_by : Option Leading → ℕ → ℕ
moment_by None clock = 0
moment_by (Some began) clock = min (began.moment + (clock - began.clock)) GREATEST_MOMENT

-- The moment of a proposal: whatever the clock says, it is not before the log's, nor before an earlier proposal's (ours).
abbrev pub moment_proposed : ReplicaState → ℕ → ℕ
moment_proposed r clock = max (moment_by r.leading clock) (max r.log.moment r.proposed)

-- an entry of the present leadership
abbrev pub under_present : ReplicaState → ContentValue → EntryValue
under_present r content = record { leadership = r.log.leadership; content = content }

-- a frame that came to a leader
abbrev pub frame_proposed : ReplicaState → ℕ → ℕ → ℕ → List ℕ → ContentValue
frame_proposed r clock connection number body =
    frame (record { connection = connection; number = number; moment = moment_proposed r clock; body = body })

-- the entry by which the next leadership begins
abbrev pub next_leadership : ReplicaState → EntryValue
next_leadership r = record { leadership = r.log.leadership + 1; content = leads }

-- a replica that leads from here on, by a clock
abbrev pub begun : ReplicaState → ℕ → ReplicaState
begun r clock = record r { leading = Some (record { clock = clock; moment = r.log.moment }) }

-- not before the log's greatest moment, nor before that of an earlier proposal
pub record IsInTime (r : ReplicaState) (moment : ℕ) : Type 0 where
  pub log : r.log.moment ≤ moment
  pub proposals : r.proposed ≤ moment

-- A leader proposes an entry of its leadership that brings an event, is in time, and has bytes and an image. The leader keeps its moment,
-- and is else as it was.
pub record Proposes (r : ReplicaState) (e : EntryValue) (new : ReplicaState) : Type 0 where
  pub is_leader : IsSome r.leading
  pub leadership : e.leadership ≡ r.log.leadership
  pub event : IsSome (event_of e)
  pub in_time : IfSome (moment_in e.content) (IsInTime r)
  pub fits : FitsEntry e
  pub topics : topics_fault e.content ≡ None
  pub kept : new ≡ record r { proposed = unwrap_or (moment_in e.content) r.proposed }

-- The entry was proposed, and its bytes were appended.
pub record ProposesBytes (r : ReplicaState) (content : ContentValue) (new : ReplicaState) (before after : List ℕ) : Type 0 where
  pub proposes : Proposes r (under_present r content) new
  pub bytes : after ≡ before ++ entry_fields (under_present r content)

-- The stamp is above every stamp of an earlier leadership.
abbrev pub IsAboveEarlier : ℕ → Stamp → Type 0
IsAboveEarlier leadership stamp =
    (earlier connection number : ℕ) → earlier < leadership → connection < 2 ^ 31
    → stamp_cmp (stamp_under earlier connection number) stamp ≡ Less

-- why an entry has no bytes
abbrev pub IsUnwritten : EntryValue → ReplicaFault → Type 0
IsUnwritten e NoMemory = ⊤
IsUnwritten e (BadEntry fault) = Misfits fault e
IsUnwritten e (BadTopics fault) = ⊥
IsUnwritten e NotLeading = ⊥
IsUnwritten e OutOfPlace = ⊥
IsUnwritten e OtherLeadership = ⊥
IsUnwritten e EarlierMoment = ⊥

-- why an entry isn't proposed
abbrev pub IsUnproposed : ReplicaState → EntryValue → ReplicaFault → Type 0
IsUnproposed r e NotLeading = r.leading ≡ None
IsUnproposed r e (BadTopics fault) = IsSome r.leading × (topics_fault e.content ≡ Some (BadTopics fault))
IsUnproposed r e (BadEntry fault) = IsSome r.leading × Misfits fault e
IsUnproposed r e NoMemory = IsSome r.leading
IsUnproposed r e OutOfPlace = ⊥
IsUnproposed r e OtherLeadership = ⊥
IsUnproposed r e EarlierMoment = ⊥
