use Rattle.std.proofs.Common.{◌≡◌, List, ℕ, Result, Ok, Err}
use Rattle.std.specs.Result.{IfOk}
use Rattle.replica_entries.specs.Reading.{entry_at}
use Rattle.replica_entries.specs.Spelling.{SpellsEntry}
use Rattle.replica_entries.specs.Values.{EntryValue}
use Rattle.replica_entries.specs.Views.{entry_value}
use Rattle.coord_replica.specs.declared.applied.Applied.{Applied}
use Rattle.coord_replica.specs.Applying.{TakesBytes, TakesEntry}
use Rattle.coord_replica.specs.Replicas.{ReplicaState, replica_state}
use Rattle.coord_replica.proofs.replica.Replica.take.Goals as goal

-- an entry that was read of the bytes, and taken
of_bytes : {E : Type 0} (result : Result Applied E) (old new : ReplicaState) (e : EntryValue) (bytes before after : List ℕ) → entry_at bytes ≡ Ok e → SpellsEntry e bytes
    → IfOk result (λ what. TakesEntry old e what new before after) → IfOk result (λ what. TakesBytes old bytes what new before after)
of_bytes (Ok what) old new e bytes before after read spells taken = record { entry = e; read = read; spells = spells; taken = taken }
of_bytes (Err fault) old new e bytes before after read spells taken = tt

pub returns-clause-taken : goal.returns-clause-taken
returns-clause-taken c =
    of_bytes c.take_entry.result (replica_state c.args.self.now) (replica_state c.take_entry.new.self) (entry_value c.in_ok-entry.entry) c.args.bytes.now c.args.out.now.items
    c.take_entry.new.out.items c.in_ok-entry.ensures.exact c.in_ok-entry.ensures.found c.take_entry.ensures.taken
