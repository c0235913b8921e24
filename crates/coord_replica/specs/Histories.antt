-- Histories of replicas over one log, whatever leaders come and go (ours). What is believed: the log is one list, to whose end entries
-- are put, and each replica applies a beginning of it.
use Rattle.std.specs.Prelude.{◌≡◌, ℕ, ◌+◌, ◌==◌, List, [], ◌∷◌, ◌++◌, length, Contains, slice_get, ⊤, Option, Some, None, Ok, Err, if◌then◌else◌}
use Rattle.coord_node.specs.Coordinator.{Answer}
use Rattle.replica_entries.specs.Values.{EntryValue}
use Rattle.coord_replica.specs.Applying.{Applies, Fate, LogRun, Logged, Takes, answer_in, moved_by}
use Rattle.coord_replica.specs.Proposing.{Proposes, begun, next_leadership}
use Rattle.coord_replica.specs.Replicas.{LogState, ReplicaState, following, replica_opening}

-- an answer that a replica gave to the entry of a place
pub record Given : Type 0 where
  pub replica : ℕ
  pub place : ℕ
  pub answer : Answer

-- Replicas by their numbers, as many as one likes; their log; what was proposed; the snapshots that were saved; and all answers that the
-- replicas gave.
pub record Cluster : Type 0 where
  pub salt : ℕ
  pub replicas : ℕ → ReplicaState
  pub log : List Logged
  pub proposals : List EntryValue
  pub snapshots : List LogState
  pub given : List Given

abbrev pub cluster_opening : ℕ → Cluster
cluster_opening salt =
    record { salt = salt; replicas = λ _. replica_opening salt; log = []; proposals = []; snapshots = []; given = [] }

-- What happens. A replica proposes to lead, begins to lead by its clock, or proposes an entry. A proposal comes to the end of the log, however
-- late and often, and is lost where it never does; bytes that are no entry may come there, too. A replica applies the next place of the
-- log, or saves a snapshot. It is lost, and begins anew, or with a snapshot that was saved, however long ago and by whomever.
pub data Act : Type 0 where
  Lead : ℕ → Act
  Begin : ℕ → ℕ → Act
  Propose : ℕ → EntryValue → Act
  Append : Logged → Act
  Apply : ℕ → Act
  Lose : ℕ → Act
  Save : ℕ → Act
  Restore : ℕ → LogState → Act

-- with another state of one replica
abbrev pub with_replica : Cluster → ℕ → ReplicaState → Cluster
with_replica c number r = record c { replicas = λ n. if n == number then r else c.replicas n }

-- with one proposal more
abbrev pub with_proposal : Cluster → EntryValue → Cluster
with_proposal c e = record c { proposals = e ∷ c.proposals }

-- with the answer that a replica gave, where it gave one
abbrev pub with_answer : Cluster → ℕ → ℕ → Option Answer → Cluster
with_answer c number place None = c
with_answer c number place (Some answer) = record c { given = record { replica = number; place = place; answer = answer } ∷ c.given }

-- A replica applied the place of the log behind the last one that it had applied.
pub record AppliesNext (c : Cluster) (number : ℕ) (new : Cluster) : Type 0 where
  pub at : Logged
  pub next : slice_get c.log (c.replicas number).log.applied ≡ Some at
  pub fate : Fate
  pub log : LogState
  pub applies : Applies (c.replicas number).log at fate log
  pub becomes : new ≡ with_answer (with_replica c number (moved_by fate (c.replicas number) at log)) number log.applied (answer_in fate)

-- an entry that comes to the log was proposed
abbrev pub IsProposed : Cluster → Logged → Type 0
IsProposed c (Ok e) = Contains c.proposals e
IsProposed c (Err fault) = ⊤

abbrev pub ActStep : Cluster → Act → Cluster → Type 0
ActStep c (Lead number) new = new ≡ with_proposal c (next_leadership (c.replicas number))
ActStep c (Begin number clock) new = new ≡ with_replica c number (begun (c.replicas number) clock)
ActStep c (Propose number e) new = (r : ReplicaState) × Proposes (c.replicas number) e r × (new ≡ with_proposal (with_replica c number r) e)
ActStep c (Append at) new = IsProposed c at × (new ≡ record c { log = c.log ++ at ∷ [] })
ActStep c (Apply number) new = AppliesNext c number new
ActStep c (Lose number) new = new ≡ with_replica c number (replica_opening c.salt)
ActStep c (Save number) new = new ≡ record c { snapshots = (c.replicas number).log ∷ c.snapshots }
ActStep c (Restore number s) new = Contains c.snapshots s × (new ≡ with_replica c number (following s))

-- one act after the other
abbrev pub History : Cluster → List Act → Cluster → Type 0
History c [] new = new ≡ c
History c (act ∷ acts) new = (middle : Cluster) × ActStep c act middle × History middle acts new

-- The answer that the run over a log gives at a place: to the entry there, behind all that stand before it.
pub record IsAnswerAt (start : LogState) (log : List Logged) (place : ℕ) (answer : Answer) : Type 0 where
  pub before : List Logged
  pub entry : EntryValue
  pub behind : List Logged
  pub stands : log ≡ before ++ Ok entry ∷ behind
  pub at_place : place ≡ length before + 1
  pub fates : List Fate
  pub middle : LogState
  pub run : LogRun start before fates middle
  pub after : LogState
  pub takes : Takes middle entry (Some answer) after

-- What a replica has is what the run over a beginning of the log comes to.
pub record FollowsLog (start : LogState) (log : List Logged) (state : LogState) : Type 0 where
  pub before : List Logged
  pub behind : List Logged
  pub stands : log ≡ before ++ behind
  pub at_place : state.applied ≡ length before
  pub fates : List Fate
  pub run : LogRun start before fates state
