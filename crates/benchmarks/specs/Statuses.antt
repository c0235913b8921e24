-- The statuses with which the program ends.
use Rattle.std.specs.Prelude.{ℕ}
use Rattle.benchmarks.specs.declared.fault.Fault.{Fault}
use Rattle.benchmarks.specs.declared.fault.Fault.TheVariants.{CommandLine, NoMemory, Unread, NoImage, OneId, Unsteady, Io}

-- 2 after a wrong command line, 1 after any other fault.
abbrev pub status_of : Fault → ℕ
status_of CommandLine = 2
status_of NoMemory = 1
status_of (Unread fault) = 1
status_of (NoImage fault) = 1
status_of OneId = 1
status_of Unsteady = 1
status_of (Io error) = 1
