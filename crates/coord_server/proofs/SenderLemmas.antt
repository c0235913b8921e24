-- The channels to the workers.
use Rattle.std.proofs.Common.{◌≡◌, ◌∙◌, ℕ, List, [], ◌∷◌, ◌++◌, length, length-append, inl, inr, arith}
use Rattle.std.proofs.lemmas.Bool.{cases_lt}
use Rattle.std.proofs.lemmas.List.{get_or_append_left, get_or_at}
use Rattle.coord_server.specs.declared.channel.WorkerSender.{WorkerSender}
use Rattle.coord_server.specs.Senders.{AreSenders}

-- one sender more, to the worker with the next number
pub one_more : {K : Type 0} (workers : ℕ) (senders : List (WorkerSender K)) (sender : WorkerSender K) → AreSenders workers senders
    → sender.worker ≡ length senders → sender.workers ≡ workers → AreSenders workers (senders ++ sender ∷ [])
one_more workers senders sender before worker many i p low =
    let more = length-append senders (sender ∷ []) in
    elim (cases_lt i (length senders)) [
      | inl below ↦ rw (get_or_append_left senders (sender ∷ []) p i below) (before i p below)
      | inr above ↦
          let same : length senders ≡ i = omega (arith, more) in
          rw (get_or_at senders sender [] p i same) (worker ∙ same, many)
    ]
