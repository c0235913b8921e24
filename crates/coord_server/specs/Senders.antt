-- The channels to the workers.
use Rattle.std.specs.Prelude.{◌≡◌, ◌<◌, ℕ, List, length, slice_index_or}
use Rattle.coord_server.specs.declared.channel.WorkerSender.{WorkerSender}

-- in each place stands the sender to the worker with that number, of `workers`
abbrev pub AreSenders : {K : Type 0} → ℕ → List (WorkerSender K) → Type 0
AreSenders {K} workers senders = (i : ℕ) (s : WorkerSender K) → i < length senders
    → ((slice_index_or senders i s).worker ≡ i) × ((slice_index_or senders i s).workers ≡ workers)
