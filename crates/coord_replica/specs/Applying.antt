-- What a log comes to, place by place: which entries are taken, and which are passed over.
use Rattle.std.specs.Prelude.{◌≡◌, ◌≢◌, ⊤, IsTrue, Bool, true, false, ℕ, ◌+◌, ◌==◌, nat_lt, unwrap_or, List, [], ◌∷◌, ◌++◌, map, Option, Some, None, option_map, Result, Ok, Err, IfOk, if◌then◌else◌}
use Rattle.std.specs.List.{cons_option, filter_map}
use Rattle.topic_meta.specs.Images.{first_fault}
use Rattle.coord_node.specs.declared.event.Answered.TheVariants as answered
use Rattle.coord_node.specs.Coordinator.{Coordinator, Event, Answer, Replied, Closes, Done, bytes_of}
use Rattle.coord_node.specs.Steps.{Step}
use Rattle.replica_entries.specs.declared.fault.EntryFault.{EntryFault}
use Rattle.replica_entries.specs.declared.fault.EntryFault.TheVariants as entry
use Rattle.replica_entries.specs.Heads.{HasUnknownVersion}
use Rattle.replica_entries.specs.Values.{ContentValue, EntryValue, frame, tick, image, leads}
use Rattle.replica_entries.specs.Spelling.{SpellsEntry}
use Rattle.replica_entries.specs.Reading.{entry_at}
use Rattle.coord_replica.specs.declared.applied.Applied.{Applied}
use Rattle.coord_replica.specs.declared.applied.Applied.TheVariants as applied
use Rattle.coord_replica.specs.declared.fault.ReplicaFault.{ReplicaFault}
use Rattle.coord_replica.specs.declared.fault.ReplicaFault.TheVariants.{NoMemory, OutOfPlace, OtherLeadership, EarlierMoment, NotLeading, BadEntry, BadTopics}
use Rattle.coord_replica.specs.Entries.{event_of, moment_in}
use Rattle.coord_replica.specs.Faults.{fault_of_entry, fault_of_topics}
use Rattle.coord_replica.specs.Replicas.{LogState, ReplicaState}

-- ---- what stands at a place of a log (ours)

-- What bytes are read as: an entry, or the fault by which they are none.
abbrev pub Logged : Type 0
Logged = Result EntryValue EntryFault

-- a log of bytes, as it is read
abbrev pub read_log : List (List ℕ) → List Logged
read_log log = map entry_at log

-- ---- which entries are refused, and why (ours)

-- the leadership that an entry must be of: the present one, or the next where it begins
abbrev pub leadership_due : ℕ → ContentValue → ℕ
leadership_due present (frame f) = present
leadership_due present (tick moment) = present
leadership_due present (image topics) = present
leadership_due present leads = present + 1

-- the greatest moment, with that of an entry
abbrev pub moment_after : ℕ → ContentValue → ℕ
moment_after greatest content = unwrap_or (moment_in content) greatest

-- topics may make no image
abbrev pub topics_fault : ContentValue → Option ReplicaFault
topics_fault (frame f) = None
topics_fault (tick moment) = None
topics_fault (image topics) = option_map fault_of_topics (first_fault topics)
topics_fault leads = None

-- why an entry isn't the next of a log: of these reasons the first
abbrev pub refusal_of : LogState → EntryValue → Option ReplicaFault
refusal_of s e =
    if e.leadership == leadership_due s.leadership e.content
    then (if nat_lt (moment_after s.moment e.content) s.moment then Some EarlierMoment else topics_fault e.content)
    else Some OtherLeadership

-- whether an entry may be of a leadership and at a moment
abbrev pub checked : LogState → ℕ → ℕ → Result (Unit {0}) ReplicaFault
checked s leadership moment =
    if leadership == s.leadership then (if nat_lt moment s.moment then Err EarlierMoment else Ok tt) else Err OtherLeadership

-- the same of what stands at a place
abbrev pub refusal_of_read : LogState → Logged → Option ReplicaFault
refusal_of_read s (Ok e) = refusal_of s e
refusal_of_read s (Err fault) = Some (fault_of_entry fault)

-- whether bytes are of a version that is read
abbrev pub is_known : EntryFault → Bool
is_known (entry.Wire fault) = true
is_known entry.UnknownVersion = false
is_known entry.UnknownKind = true
is_known entry.BadNumber = true
is_known entry.BadBody = true
is_known entry.LeftOver = true
is_known entry.NoMemory = true

-- whether an entry that is refused by a fault is passed over
abbrev pub is_passed_over : ReplicaFault → Bool
is_passed_over NoMemory = false
is_passed_over OutOfPlace = false
is_passed_over OtherLeadership = true
is_passed_over EarlierMoment = true
is_passed_over NotLeading = false
is_passed_over (BadEntry fault) = is_known fault
is_passed_over (BadTopics fault) = true

-- ---- what a place comes to

-- What became of a place: its entry was taken, with the answer to the event that it brought; or it was passed over, and why.
pub data Fate : Type 0 where
  Taken : Option Answer → Fate
  PassedOver : ReplicaFault → Fate

-- the coordinator's step on an event; where there is none nothing is answered
abbrev pub EventStep : Coordinator → Option Event → Option Answer → Coordinator → Type 0
EventStep c None answer new = (answer ≡ None) × (new ≡ c)
EventStep c (Some event) None new = ⊥
EventStep c (Some event) (Some answer) new = Step c event answer new

-- An entry is the next of a log, and what it comes to.
pub record Takes (s : LogState) (e : EntryValue) (answer : Option Answer) (new : LogState) : Type 0 where
  pub taken : refusal_of s e ≡ None
  pub step : EventStep s.coordinator (event_of e) answer new.coordinator
  pub applied : new.applied ≡ s.applied + 1
  pub leadership : new.leadership ≡ e.leadership
  pub moment : new.moment ≡ moment_after s.moment e.content

-- What is refused is passed over: its place is applied, and nothing else changes. Not so bytes of an unknown version: a later library takes
-- them, and a replica that passed them over would have another state than those that take them.
pub record PassesOver (s : LogState) (at : Logged) (fault : ReplicaFault) (new : LogState) : Type 0 where
  pub refused : refusal_of_read s at ≡ Some fault
  pub known : at ≢ Err entry.UnknownVersion
  pub becomes : new ≡ record s { applied = s.applied + 1 }

-- bytes that are no entry are never taken
abbrev pub TakesRead : LogState → Logged → Option Answer → LogState → Type 0
TakesRead s (Ok e) answer new = Takes s e answer new
TakesRead s (Err fault) answer new = ⊥

-- A log goes on by one place.
abbrev pub Applies : LogState → Logged → Fate → LogState → Type 0
Applies s at (Taken answer) new = TakesRead s at answer new
Applies s at (PassedOver fault) new = PassesOver s at fault new

-- one place after the other, from the first state to the last
abbrev pub LogRun : LogState → List Logged → List Fate → LogState → Type 0
LogRun s [] [] new = new ≡ s
LogRun s [] (fate ∷ fates) new = ⊥
LogRun s (at ∷ log) [] new = ⊥
LogRun s (at ∷ log) (fate ∷ fates) new = (middle : LogState) × Applies s at fate middle × LogRun middle log fates new

abbrev pub entry_in : Logged → Option EntryValue
entry_in (Ok e) = Some e
entry_in (Err fault) = None

-- the entry of a place that was taken
abbrev pub taken_in : Fate → Logged → Option EntryValue
taken_in (Taken answer) at = entry_in at
taken_in (PassedOver fault) at = None

-- the entries that were taken
abbrev pub entries_taken : List Logged → List Fate → List EntryValue
entries_taken [] fates = []
entries_taken (at ∷ log) [] = []
entries_taken (at ∷ log) (fate ∷ fates) = cons_option (taken_in fate at) (entries_taken log fates)

abbrev pub answer_in : Fate → Option Answer
answer_in (Taken answer) = answer
answer_in (PassedOver fault) = None

-- the answers to those entries that brought an event, and were taken
abbrev pub answers_given : List Fate → List Answer
answers_given fates = filter_map answer_in fates

-- ---- what a call says

-- the replica when its log has come to a state by an entry: a leadership that begins ends its own
abbrev pub moved_to : ReplicaState → ContentValue → LogState → ReplicaState
moved_to r (frame f) log = record r { log = log }
moved_to r (tick moment) log = record r { log = log }
moved_to r (image topics) log = record r { log = log }
moved_to r leads log = record { log = log; leading = None; proposed = 0 }

abbrev pub moved_read : ReplicaState → Logged → LogState → ReplicaState
moved_read r (Ok e) log = moved_to r e.content log
moved_read r (Err fault) log = record r { log = log }

-- the same by what became of a place: one that was passed over ends no leadership
abbrev pub moved_by : Fate → ReplicaState → Logged → LogState → ReplicaState
moved_by (Taken answer) r at log = moved_read r at log
moved_by (PassedOver fault) r at log = record r { log = log }

-- what a call says of an entry that it took
abbrev pub told_under : ℕ → ContentValue → Option Answer → Option Applied
told_under leadership (frame f) (Some (Replied bytes)) = Some (applied.Frame leadership f.connection f.number answered.Replied)
told_under leadership (frame f) (Some Closes) = Some (applied.Frame leadership f.connection f.number answered.Closes)
told_under leadership (tick moment) (Some (Done removed)) = Some (applied.Tick removed)
told_under leadership (image topics) (Some (Done removed)) = Some applied.Topics
told_under leadership leads None = Some (applied.Leads leadership)
told_under leadership content answer = None

abbrev pub told_read : Logged → Option Answer → Option Applied
told_read (Ok e) answer = told_under e.leadership e.content answer
told_read (Err fault) answer = None

-- what a call says of a place
abbrev pub told_of : Fate → Logged → Option Applied
told_of (Taken answer) at = told_read at answer
told_of (PassedOver fault) at = Some (applied.PassedOver fault)

-- what a call says of a place that it passed over is a fault of what stands there
abbrev pub TellsWhy : Applied → Type 0
TellsWhy (applied.Frame leadership connection number answered) = ⊤
TellsWhy (applied.Tick removed) = ⊤
TellsWhy applied.Topics = ⊤
TellsWhy (applied.Leads leadership) = ⊤
TellsWhy (applied.PassedOver fault) = IsTrue (is_passed_over fault)

-- the bytes that are sent
abbrev pub bytes_sent : Option Answer → List ℕ
bytes_sent None = []
bytes_sent (Some answer) = bytes_of answer

-- An entry was taken; the bytes of its reply were appended.
pub record TakesEntry (old : ReplicaState) (e : EntryValue) (what : Applied) (new : ReplicaState) (before after : List ℕ) : Type 0 where
  pub answer : Option Answer
  pub takes : Takes old.log e answer new.log
  pub own : new ≡ moved_to old e.content new.log
  pub says : told_under e.leadership e.content answer ≡ Some what
  pub replies : after ≡ before ++ bytes_sent answer

-- The same of an entry that has no reply.
abbrev pub TakesQuietly : ReplicaState → EntryValue → Applied → ReplicaState → Type 0
TakesQuietly old e what new = (bytes : List ℕ) → TakesEntry old e what new bytes bytes

-- The bytes spell an entry and are read as it, and it was taken.
pub record TakesBytes (old : ReplicaState) (bytes : List ℕ) (what : Applied) (new : ReplicaState) (before after : List ℕ) : Type 0 where
  pub entry : EntryValue
  pub read : entry_at bytes ≡ Ok entry
  pub spells : SpellsEntry entry bytes
  pub taken : TakesEntry old entry what new before after

-- The bytes at a place were applied: where they spell an entry they were read as that, and it was taken or passed over.
pub record AppliesBytes (old : ReplicaState) (bytes : List ℕ) (what : Applied) (new : ReplicaState) (before after : List ℕ) : Type 0 where
  pub fate : Fate
  pub applies : Applies old.log (entry_at bytes) fate new.log
  pub spells : IfOk (entry_at bytes) (λ e. SpellsEntry e bytes)
  pub own : new ≡ moved_by fate old (entry_at bytes) new.log
  pub says : told_of fate (entry_at bytes) ≡ Some what
  pub why : TellsWhy what
  pub replies : after ≡ before ++ bytes_sent (answer_in fate)

-- why nothing is applied: there is no memory, or it is another place than the next, or a later library's version
abbrev pub IsHeldUp : LogState → ℕ → List ℕ → ReplicaFault → Type 0
IsHeldUp s place bytes NoMemory = ⊤
IsHeldUp s place bytes OutOfPlace = place ≢ s.applied + 1
IsHeldUp s place bytes OtherLeadership = ⊥
IsHeldUp s place bytes EarlierMoment = ⊥
IsHeldUp s place bytes NotLeading = ⊥
IsHeldUp s place bytes (BadEntry fault) = (fault ≡ entry.UnknownVersion) × HasUnknownVersion bytes
IsHeldUp s place bytes (BadTopics fault) = ⊥
