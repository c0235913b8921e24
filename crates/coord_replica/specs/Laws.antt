-- What holds of every run over a log, and after every history of replicas (ours).
use Rattle.std.specs.Prelude.{◌≡◌, ◌≢◌, ◌⊎◌, ℕ, ◌+◌, ◌-◌, ◌<◌, ◌≤◌, min, max, List, ◌++◌, length, All, Contains, Some, None, Ok, IfSome, IfOk, IfErr, Result}
use Rattle.std.specs.FinMap as finite
use Rattle.std.specs.List.Sorted.{IsNonDecreasing}
use Rattle.flex_wire.specs.Laws.{AreBytes}
use Rattle.group_types.specs.Text.{Text}
use Rattle.group_types.specs.Group.{Group, Record}
use Rattle.coord_node.specs.Coordinator.{Done, opening}
use Rattle.coord_node.specs.Laws.{IsServing}
use Rattle.coord_node.specs.Steps.{Run}
use Rattle.replica_entries.specs.Heads.{HasUnknownVersion}
use Rattle.replica_entries.specs.Spelling.{FitsEntry}
use Rattle.replica_entries.specs.Values.{EntryValue, leads, tick}
use Rattle.coord_replica.specs.Applying.{Applies, Fate, LogRun, Logged, Takes, answers_given, entries_taken, moved_by, read_log, refusal_of}
use Rattle.coord_replica.specs.Entries.{events_of, leaderships_of, moment_in, moments_of, stamp_under}
use Rattle.coord_replica.specs.Histories.{Act, Cluster, FollowsLog, Given, History, IsAnswerAt, cluster_opening}
use Rattle.coord_replica.specs.Proposing.{GREATEST_MOMENT, IsAboveEarlier, Proposes, begun, moment_proposed, under_present}
use Rattle.coord_replica.specs.declared.leading.Leading.{Leading}
use Rattle.replica_snapshots.specs.Nodes.{FitsSection, sections_of}
use Rattle.replica_snapshots.specs.Places.{FitsPlace}
use Rattle.replica_snapshots.specs.Restoring.{CanBeNode}
use Rattle.replica_snapshots.specs.Runs.{HasFewOffsets}
use Rattle.replica_snapshots.specs.Spelling.{FitsNumber}
use Rattle.replica_snapshots.specs.declared.fault.SnapshotFault.{SnapshotFault}
use Rattle.replica_snapshots.specs.declared.fault.SnapshotFault.TheVariants.{NoMemory}
use Rattle.coord_replica.specs.Replicas.{LogState, ReplicaState, ReplicaValue, following, log_opening, replica_state}
use Rattle.coord_replica.specs.Snapshots.{IsSnapshotOf, PutsPart, SnapshotValue, SpellsLog, part, restored, sections_in, snapshot_fields, snapshot_of}

-- what the coordinator's run says of the entries that were taken
pub record IsRunOf (salt : ℕ) (log : List Logged) (fates : List Fate) (s : LogState) : Type 0 where
  pub run : Run (opening salt) (events_of (entries_taken log fates)) (answers_given fates) s.coordinator
  pub applied : s.applied ≡ length log

-- a replica that applied a log since its opening has the state, and gave the answers, of the coordinator's run over the events of the
-- entries that were taken
abbrev pub ReplicasAreRuns : Type 0
ReplicasAreRuns =
    (salt : ℕ) (log : List Logged) (fates : List Fate) (s : LogState) → LogRun (log_opening salt) log fates s → IsRunOf salt log fates s

-- replicas that applied the same log are the same: they took the same entries, with the same answers, and passed over the others
abbrev pub SameEntriesSameReplica : Type 0
SameEntriesSameReplica =
    (s : LogState) (log : List Logged) (a b : List Fate) (t u : LogState) → LogRun s log a t → LogRun s log b u → (a ≡ b) × (t ≡ u)

-- what may stand at a place of a log: any bytes, if they don't begin with a later library's version
pub record IsOfKnownVersion (bytes : List ℕ) : Type 0 where
  pub are : AreBytes bytes
  pub known : ¬ HasUnknownVersion bytes

-- From a state on a log has one end, behind its last place.
pub record CatchesUp (s : LogState) (log : List (List ℕ)) : Type 0 where
  pub fates : List Fate
  pub end : LogState
  pub run : LogRun s (read_log log) fates end
  pub applied : end.applied ≡ s.applied + length log
  pub only : (others : List Fate) (other : LogState) → LogRun s (read_log log) others other → other ≡ end

-- no log holds a replica up, whatever late appends and other bytes stand in it: it comes to the end of each, and to one state there
abbrev pub EveryReplicaCatchesUp : Type 0
EveryReplicaCatchesUp = (s : LogState) (log : List (List ℕ)) → IsServing s.coordinator → All IsOfKnownVersion log → CatchesUp s log

-- .. and whatever log a replica has applied since its opening, its coordinator serves
abbrev pub LogsServe : Type 0
LogsServe = (salt : ℕ) (log : List Logged) (fates : List Fate) (s : LogState) → LogRun (log_opening salt) log fates s → IsServing s.coordinator

-- a stamp is above all stamps of earlier leaderships
abbrev pub StampsRise : Type 0
StampsRise = (leadership connection number : ℕ) → IsAboveEarlier leadership (stamp_under leadership connection number)

-- along a list of entries no leadership falls, and no moment
pub record NeverFall (entries : List EntryValue) : Type 0 where
  pub leaderships : IsNonDecreasing (leaderships_of entries)
  pub moments : IsNonDecreasing (moments_of entries)

-- .. along those that were taken of a log
abbrev pub LogsNeverFall : Type 0
LogsNeverFall = (s : LogState) (log : List Logged) (fates : List Fate) (t : LogState) → LogRun s log fates t → NeverFall (entries_taken log fates)

-- what a leader proposed is the next entry of every log of its leadership that has come no further in time
abbrev pub ProposalsAreTaken : Type 0
ProposalsAreTaken =
    (r new : ReplicaState) (e : EntryValue) (s : LogState)
    → Proposes r e new → s.leadership ≡ e.leadership → IfSome (moment_in e.content) (λ moment. s.moment ≤ moment)
    → refusal_of s e ≡ None

-- ---- of leaders

-- A replica leads on while no leadership begins, and no longer.
pub record LeadsUntilDeposed (old : ReplicaState) (log : LogState) (new : ReplicaState) : Type 0 where
  pub leads_on : log.leadership ≡ old.log.leadership → new ≡ record old { log = log }
  pub deposed : log.leadership ≢ old.log.leadership → new ≡ following log

abbrev pub DeposedLeadersFollow : Type 0
DeposedLeadersFollow =
    (r : ReplicaState) (at : Logged) (fate : Fate) (log : LogState) → Applies r.log at fate log → LeadsUntilDeposed r log (moved_by fate r at log)

-- How long a leader has led by its clock.
abbrev pub time_led : Leading → ℕ → ℕ
time_led began clock = clock - began.clock

-- The moments of a leader's proposals go on from the log's. They stand still while nobody leads, and go as fast as the leader's clock, and
-- no faster, unless they have come to the greatest.
pub record KeepsTime (r : ReplicaState) (clock later : ℕ) : Type 0 where
  pub begins : r.log.moment ≤ GREATEST_MOMENT → moment_proposed (begun r clock) clock ≡ max r.log.moment r.proposed
  pub goes_on : moment_proposed r clock ≤ moment_proposed r later
  pub no_faster : moment_proposed r later ≤ moment_proposed r clock + (later - clock)
  pub no_slower : (began : Leading) → r.leading ≡ Some began
      → min (began.moment + time_led began later) GREATEST_MOMENT ≤ moment_proposed r later
  pub kept : moment_proposed (record r { proposed = moment_proposed r clock }) later ≡ moment_proposed r later

abbrev pub LeadersKeepTime : Type 0
LeadersKeepTime = (r : ReplicaState) (clock later : ℕ) → clock ≤ later → KeepsTime r clock later

-- the beginning of a leadership changes neither the coordinator nor the moment, whether it is taken or passed over
abbrev pub LeadershipsBeginQuietly : Type 0
LeadershipsBeginQuietly =
    (s : LogState) (leadership : ℕ) (fate : Fate) (t : LogState) → Applies s (Ok (record { leadership = leadership; content = leads })) fate t
    → (t.coordinator ≡ s.coordinator) × (t.moment ≡ s.moment)

-- whatever log a replica has applied since its opening, no group has used a later moment than the log's
abbrev pub NoClockIsAhead : LogState → Type 0
NoClockIsAhead s = (name : Text) (g : Group) → finite.get s.coordinator.groups name ≡ Some g → g.clock ≤ s.moment

abbrev pub ClocksFollowTheLog : Type 0
ClocksFollowTheLog = (salt : ℕ) (log : List Logged) (fates : List Fate) (s : LogState) → LogRun (log_opening salt) log fates s → NoClockIsAhead s

-- A leader's tick takes a member from a group: the replica leads since `began`, and the log and its own proposals have gone no further in
-- time than its clock.
pub record TickRemoves (r : ReplicaState) (began : Leading) (clock : ℕ) (s t : LogState) (name m : Text) (member : Record) : Type 0 where
  pub leads : r.leading ≡ Some began
  pub log : r.log.moment ≤ began.moment + time_led began clock
  pub proposals : r.proposed ≤ began.moment + time_led began clock
  pub removed : ℕ
  pub takes : Takes s (under_present r (tick (moment_proposed r clock))) (Some (Done removed)) t
  pub before : Group
  pub was : finite.get s.coordinator.groups name ≡ Some before
  pub had : finite.get before.records m ≡ Some member
  pub after : Group
  pub is : finite.get t.coordinator.groups name ≡ Some after
  pub gone : finite.get after.records m ≡ None

-- What was left of a time when a leader began has passed while it led, by its clock.
abbrev pub HasPassed : Leading → ℕ → ℕ → Type 0
HasPassed began clock deadline = deadline - began.moment ≤ time_led began clock

-- whom a leader's tick removes had been silent for the rest of its session while this leader led; or it hadn't given up, in the rest of
-- its rebalance timeout while this leader led, what it lost
abbrev pub RemovedWereSilent : Type 0
RemovedWereSilent =
    (r : ReplicaState) (began : Leading) (clock : ℕ) (s t : LogState) (name m : Text) (member : Record)
    → NoClockIsAhead s → TickRemoves r began clock s t name m member
    → HasPassed began clock member.session_deadline
    ⊎ ((deadline : ℕ) × (member.release_deadline ≡ Some deadline) × HasPassed began clock deadline)

-- ---- over failovers

-- whatever leaders come and go, and whatever is proposed and lost: what a replica has is what a beginning of the log comes to
abbrev pub ReplicasFollowTheLog : Type 0
ReplicasFollowTheLog =
    (salt : ℕ) (acts : List Act) (c : Cluster) → History (cluster_opening salt) acts c
    → (number : ℕ) → FollowsLog (log_opening salt) c.log (c.replicas number).log

-- .. so replicas that have come to one place are the same: one that leads from there on has all groups as the former leader left them
abbrev pub OneStateAPlace : Type 0
OneStateAPlace =
    (salt : ℕ) (acts : List Act) (c : Cluster) → History (cluster_opening salt) acts c
    → (one other : ℕ) → (c.replicas one).log.applied ≡ (c.replicas other).log.applied → (c.replicas one).log ≡ (c.replicas other).log

-- .. every answer that any replica gave for a place of the log is the one that the run over the log gives there
abbrev pub AnswersAreTheLogs : Type 0
AnswersAreTheLogs =
    (salt : ℕ) (acts : List Act) (c : Cluster) → History (cluster_opening salt) acts c
    → (given : Given) → Contains c.given given → IsAnswerAt (log_opening salt) c.log given.place given.answer

-- .. and so no two replicas ever give different answers to one entry
abbrev pub OneAnswerAPlace : Type 0
OneAnswerAPlace =
    (salt : ℕ) (acts : List Act) (c : Cluster) → History (cluster_opening salt) acts c
    → (one other : Given) → Contains c.given one → Contains c.given other → one.place ≡ other.place → one.answer ≡ other.answer

-- ---- of snapshots

-- bytes are the snapshot of at most one state: so what is restored of a snapshot that was written is what it was written of
abbrev pub OneStateASnapshot : Type 0
OneStateASnapshot = (s t : LogState) (bytes : List ℕ) → SpellsLog s bytes → SpellsLog t bytes → s ≡ t

-- whatever log a replica has applied since its opening, a node can be what it comes to: so another replica is restored of a snapshot of
-- it, unless memory is short (`whole` of Replica::restore), and is then the same
abbrev pub LogsCanBeRestored : Type 0
LogsCanBeRestored =
    (salt : ℕ) (log : List Logged) (fates : List Fate) (s : LogState) → LogRun (log_opening salt) log fates s → CanBeNode s.coordinator

-- The snapshot of a replica that has applied a log. Each entry of the log has a spelling, as whatever is read of bytes has.
-- The salt and the number of places are of 64 bits, as the code's are. No group has more offsets than a count can say.
pub record IsOfLog (v : SnapshotValue) : Type 0 where
  pub salt : ℕ
  pub log : List Logged
  pub fates : List Fate
  pub state : LogState
  pub fits : FitsNumber salt
  pub count : FitsNumber (length log)
  pub each : All (λ at. IfOk at FitsEntry) log
  pub run : LogRun (log_opening salt) log fates state
  pub few : HasFewOffsets state.coordinator
  pub of : IsSnapshotOf state v

-- whatever log a replica has applied since its opening, no put of its snapshot is refused but for want of memory, where no group has more
-- offsets than a count can say
abbrev pub LogsWithFewOffsetsCanBeWritten : Type 0
LogsWithFewOffsetsCanBeWritten =
    (v : SnapshotValue) (result : Result ℕ SnapshotFault) (old new : List ℕ) (from size : ℕ)
    → IsOfLog v → PutsPart result old new v from size → IfErr result (λ fault. fault ≡ NoMemory)

-- all sections are the snapshot
abbrev pub SectionsMakeASnapshot : Type 0
SectionsMakeASnapshot =
    (s : LogState) (v : SnapshotValue) → IsSnapshotOf s v → FitsPlace v.place → All FitsSection (sections_of v.node)
    → SpellsLog s (part v 0 (sections_in v))

-- one part behind another is a part
abbrev pub PartsFollow : Type 0
PartsFollow =
    (v : SnapshotValue) (from middle next : ℕ) → from < middle → middle ≤ next → next ≤ sections_in v
    → part v from middle ++ part v middle next ≡ part v from next

-- all parts of a snapshot are the snapshot, and no more
abbrev pub AllPartsAreTheSnapshot : Type 0
AllPartsAreTheSnapshot = (v : SnapshotValue) → part v 0 (sections_in v) ≡ snapshot_fields v

-- .. so a replica that was restored of a snapshot is written as the bytes that it was read of
abbrev pub RestoredIsWrittenTheSame : Type 0
RestoredIsWrittenTheSame =
    (v : SnapshotValue) (r : ReplicaValue) → r ≡ restored v → part (snapshot_of r) 0 (sections_in (snapshot_of r)) ≡ snapshot_fields v

-- .. and it has the state that the snapshot is of, and doesn't lead
abbrev pub RestoredFollowsTheLog : Type 0
RestoredFollowsTheLog = (s : LogState) (v : SnapshotValue) → IsSnapshotOf s v → replica_state (restored v) ≡ following s
