-- The sequence numbers of idempotent producers (KIP-98, "Idempotent Producer Guarantees"; KIP-360).
use Rattle.std.specs.Prelude.{ℕ, ◌+◌, ◌-◌, ◌%◌, ◌^◌, ◌==◌, Bool, ◌&&◌, List, [], ◌∷◌, ◌++◌, length, drop, remove, fold, count_by, nat_lt, Option, Some, None, if◌then◌else◌}
use Rattle.std.specs.List.{position_or_len}
use Rattle.topic_logs.specs.declared.sequence.Sent.{Sent}
use Rattle.topic_logs.specs.declared.sequence.Sequence.{Sequence}
use Rattle.topic_logs.specs.declared.sequence.Standing.{Standing}
use Rattle.topic_logs.specs.declared.sequence.Standing.TheVariants.{New, Repeated, OutOfOrder, OldEpoch}

-- how many batches of a producer are remembered
abbrev pub MOST_OF_A_PRODUCER : ℕ
MOST_OF_A_PRODUCER = 5

-- how many batches of all producers of a partition are remembered (ours)
abbrev pub MOST_REMEMBERED : ℕ
MOST_REMEMBERED = 5000

-- a sequence number that is `more` later: 0 follows 2^31 - 1
abbrev pub after : ℕ → ℕ → ℕ
after sequence more = (sequence + more) % 2 ^ 31

-- whether a remembered batch is of this producer
abbrev pub is_of : ℕ → Sent → Bool
is_of producer sent = sent.sequence.producer == producer

-- whether it is the batch of this sequence
abbrev pub is_same : Sequence → Sent → Bool
is_same s sent =
    is_of s.producer sent && (sent.sequence.epoch == s.epoch && (sent.sequence.first == s.first && sent.sequence.last == s.last))

-- the sequence number that a batch of this epoch has to begin with, after the producer's last batch
abbrev pub expected : Sequence → Sequence → ℕ
expected last s = if s.epoch == last.epoch then after last.last 1 else 0

-- a batch of the producer's latest epoch or a later one: a remembered one is repeated
abbrev pub standing_under : Sequence → Option Sent → Sequence → Standing
standing_under last (Some same) s = Repeated same.base_offset
standing_under last None s = if s.first == expected last s then New else OutOfOrder

-- a batch after the producer's last one: if there is none, the producer is not known, and may begin anywhere
abbrev pub standing_after : Option Sent → Option Sent → Sequence → Standing
standing_after None same s = New
standing_after (Some last) same s =
    if nat_lt s.epoch last.sequence.epoch then OldEpoch else standing_under last.sequence same s

-- the last element that passes the test
abbrev pub last_of : (Sent → Bool) → List Sent → Option Sent
last_of test sent = fold (λ last s. if test s then Some s else last) None sent

-- what a batch is to a log that remembers these, the oldest first
abbrev pub standing_of : List Sent → Sequence → Standing
standing_of sent s = standing_after (last_of (is_of s.producer) sent) (last_of (is_same s) sent) s

-- the list without the first element that passes the test
abbrev pub without_first : (Sent → Bool) → List Sent → List Sent
without_first test sent = remove sent (position_or_len test sent)

-- without the producer's oldest batch if it has more than are remembered
abbrev pub trimmed : ℕ → List Sent → List Sent
trimmed producer sent =
    if nat_lt MOST_OF_A_PRODUCER (count_by (is_of producer) sent) then without_first (is_of producer) sent else sent

-- without the oldest batches if there are more than are remembered
abbrev pub bounded : List Sent → List Sent
bounded sent = drop (length sent - MOST_REMEMBERED) sent

-- with a new batch
abbrev pub remembered : List Sent → Sent → List Sent
remembered sent new = bounded (trimmed new.sequence.producer (sent ++ new ∷ []))
