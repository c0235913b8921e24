-- Calls of the system that a signal interrupted.
use Rattle.std.specs.Prelude.{◌≡◌, Result, Ok, Err}
use Rattle.std.specs.IoError.{error_kind}
use Rattle.std.specs.declared.io.Error.{Error}
use Rattle.std.specs.declared.io.ErrorKind.TheVariants.{Interrupted}
use Rattle.futures.specs.declared.task.Poll.{Poll}
use Rattle.futures.specs.declared.task.Poll.TheVariants.{Ready, Pending}

-- the call was made, and was interrupted
abbrev pub IsInterrupted : {A : Type 0} → Poll (Result A Error) → Type 0
IsInterrupted (Ready (Ok x)) = ⊥
IsInterrupted (Ready (Err e)) = error_kind e ≡ Interrupted
IsInterrupted Pending = ⊥
