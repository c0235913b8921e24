-- What writing an entry does to the bytes written so far.
use Rattle.std.specs.Prelude.{◌≡◌, ℕ, ◌+◌, ◌<◌, ◌≤◌, ◌++◌, length, Result, is_ok, IsErrOf, vec_len, vec_capacity, if◌then◌else◌}
use Rattle.std.specs.Global.{Vec}
use Rattle.replica_entries.specs.declared.fault.EntryFault.{EntryFault}
use Rattle.replica_entries.specs.declared.fault.EntryFault.TheVariants.{NoMemory}
use Rattle.replica_entries.specs.Values.{EntryValue}
use Rattle.replica_entries.specs.Spelling.{entry_fields}

-- The entry is appended, or no byte changes; memory is short only where the whole entry had no room; the capacity never shrinks.
pub record PutsEntry (result : Result (Unit {0}) EntryFault) (old new : Vec ℕ) (v : EntryValue) : Type 0 where
  pub items : new.items ≡ (if is_ok result then old.items ++ entry_fields v else old.items)
  pub room : IsErrOf result NoMemory → vec_capacity old < vec_len old + length (entry_fields v)
  pub capacity : vec_capacity old ≤ vec_capacity new
