-- What the loop of a thread comes to.
use Rattle.std.specs.Prelude.{◌≡◌, ℕ, Option, Some, None, Result, Ok, Err, IsErr}
use Rattle.std.specs.declared.io.Error.{Error}
use Rattle.futures.specs.declared.future.abortable_task.Aborted.{Aborted}
use Rattle.coord_server.specs.declared.fault.ServerFault.{ServerFault}

-- the number or the fault that its future gave, nothing where it was told to stop, and a fault where the loop failed
abbrev pub EndsAs : Result (Result (Result ℕ ServerFault) Aborted) Error → Result (Option ℕ) ServerFault → Type 0
EndsAs (Ok (Ok (Ok ended))) end = end ≡ Ok (Some ended)
EndsAs (Ok (Ok (Err fault))) end = end ≡ Err fault
EndsAs (Ok (Err aborted)) end = end ≡ Ok None
EndsAs (Err error) end = IsErr end
