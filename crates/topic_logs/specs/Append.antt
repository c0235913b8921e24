-- What appending does to a log, and why it does not.
use Rattle.std.specs.Prelude.{◌≡◌, ◌≤ℤ◌, ℤ, pos, negsuc, ℕ, ◌+◌, ◌-◌, ◌^◌, ◌≤◌, ⊤, List, [], ◌∷◌, ◌++◌, Option, Some, None}
use Rattle.topic_logs.specs.Format.{IsBatch, IsControl, natural, producer_id, producer_epoch, base_sequence, record_count}
use Rattle.topic_logs.specs.Log.{Log, batch_at, retained, start_offset}
use Rattle.topic_logs.specs.Sequence.{standing_of, remembered, after}
use Rattle.topic_logs.specs.declared.sequence.Sent.{Sent}
use Rattle.topic_logs.specs.declared.sequence.Sequence.{Sequence}
use Rattle.topic_logs.specs.declared.sequence.Standing.{Standing}
use Rattle.topic_logs.specs.declared.sequence.Standing.TheVariants.{New, Repeated, OutOfOrder, OldEpoch}
use Rattle.topic_logs.specs.declared.log.Appended.{Appended}
use Rattle.topic_logs.specs.declared.fault.AppendFault.{AppendFault}
use Rattle.topic_logs.specs.declared.fault.AppendFault.TheVariants as fault

-- KIP-98: a producer with an id has an epoch and numbers its records
abbrev pub HasSequenceIf : ℤ → List ℕ → Type 0
HasSequenceIf (negsuc n) bytes = ⊤
HasSequenceIf (pos n) bytes = (pos 0 ≤ℤ producer_epoch bytes) × (pos 0 ≤ℤ base_sequence bytes)

abbrev pub HasSequence : List ℕ → Type 0
HasSequence bytes = HasSequenceIf (producer_id bytes) bytes

-- exactly one batch, which a producer may send: control batches are the broker's own
pub record IsProducible (bytes : List ℕ) : Type 0 where
  pub batch : IsBatch bytes
  pub control : ¬ IsControl bytes
  pub sequence : HasSequence bytes

-- KIP-98: which batch of an idempotent producer it is
abbrev pub sequence_with : ℤ → List ℕ → Option Sequence
sequence_with (negsuc n) bytes = None
sequence_with (pos producer) bytes =
    Some (record {
      producer = producer;
      epoch = natural (producer_epoch bytes);
      first = natural (base_sequence bytes);
      last = after (natural (base_sequence bytes)) (natural (record_count bytes) - 1);
    })

abbrev pub sequence_of : List ℕ → Option Sequence
sequence_of bytes = sequence_with (producer_id bytes) bytes

-- a batch of a producer that is not idempotent is always new
abbrev pub standing_with : List Sent → Option Sequence → Standing
standing_with sent None = New
standing_with sent (Some s) = standing_of sent s

abbrev pub standing_in : Log → List ℕ → Standing
standing_in log bytes = standing_with log.sent (sequence_of bytes)

abbrev pub remembered_with : List Sent → Option Sequence → ℕ → List Sent
remembered_with sent None base_offset = sent
remembered_with sent (Some s) base_offset = remembered sent (record { sequence = s; base_offset = base_offset })

-- the log becomes the one with the new batch, which gets the next offset
pub record Appends (old new : Log) (bytes : List ℕ) (sequence : Option Sequence) (epoch : ℤ) (retain : ℕ) (a : Appended) : Type 0 where
  pub batches : new.batches ≡ retained retain (old.batches ++ batch_at old.end epoch bytes ∷ [])
  pub end : new.end ≡ old.end + natural (record_count bytes)
  pub sent : new.sent ≡ remembered_with old.sent sequence old.end
  pub base_offset : a.base_offset ≡ old.end
  pub start : a.log_start_offset ≡ start_offset new

-- a new batch is appended, and a repeated one gets its offset again
abbrev pub AcceptsAs : Standing → Log → Log → List ℕ → ℤ → ℕ → Appended → Type 0
AcceptsAs New old new bytes epoch retain a = Appends old new bytes (sequence_of bytes) epoch retain a
AcceptsAs (Repeated base) old new bytes epoch retain a =
    (new ≡ old) × (a.base_offset ≡ base) × (a.log_start_offset ≡ start_offset old)
AcceptsAs OutOfOrder old new bytes epoch retain a = ⊥
AcceptsAs OldEpoch old new bytes epoch retain a = ⊥

-- the bytes are a batch that a producer may send, and it is new or repeated
pub record Accepts (old new : Log) (bytes : List ℕ) (epoch : ℤ) (retain : ℕ) (a : Appended) : Type 0 where
  pub producible : IsProducible bytes
  pub log : AcceptsAs (standing_in old bytes) old new bytes epoch retain a

-- why a batch is refused; running out of memory has no reason
abbrev pub Refuses : AppendFault → Log → List ℕ → Type 0
Refuses (fault.Batch f) log bytes = ¬ IsProducible bytes
Refuses fault.OutOfOrder log bytes = standing_in log bytes ≡ OutOfOrder
Refuses fault.OldEpoch log bytes = standing_in log bytes ≡ OldEpoch
Refuses fault.NoOffsets log bytes = 2 ^ 63 ≤ log.end + natural (record_count bytes)
Refuses fault.NoMemory log bytes = ⊤

-- the faults of which a log with no room has one
abbrev pub IsShortage : AppendFault → Type 0
IsShortage (fault.Batch f) = ⊥
IsShortage fault.OutOfOrder = ⊥
IsShortage fault.OldEpoch = ⊥
IsShortage fault.NoOffsets = ⊤
IsShortage fault.NoMemory = ⊤
