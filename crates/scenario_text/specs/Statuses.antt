-- The statuses with which the program ends. They are this program's own.
use Rattle.std.specs.Prelude.{◌≡◌, ℕ}
use Rattle.std.specs.IoError.{error_kind}
use Rattle.std.specs.declared.io.ErrorKind.TheVariants as io_kind
use Rattle.clap.specs.Words.{kind_of}
use Rattle.clap.specs.declared.error.kind.ErrorKind.TheVariants as clap_kind
use Rattle.scenario_text.specs.declared.command_line.CommandLineFault.{CommandLineFault}
use Rattle.scenario_text.specs.declared.command_line.CommandLineFault.TheVariants as command_line
use Rattle.scenario_text.specs.declared.fault.Fault.{Fault}
use Rattle.scenario_text.specs.declared.fault.Fault.TheVariants.{BadLine, Read, TooLong, Write, NoMemory}

-- 2 where a line was wrong, 1 where the input, the output or memory failed
abbrev pub status_of : Fault → ℕ
status_of (BadLine number) = 2
status_of (Read error) = 1
status_of TooLong = 1
status_of (Write error) = 1
status_of NoMemory = 1

-- a command line could not be read, or could not be looked at, for want of memory
abbrev pub IsForMemory : CommandLineFault → Type 0
IsForMemory (command_line.Refused error) = kind_of error ≡ clap_kind.OutOfMemory
IsForMemory (command_line.Unread error) = error_kind error ≡ io_kind.OutOfMemory
IsForMemory (command_line.OutOfRange name most) = ⊥
IsForMemory (command_line.NoTopic word) = ⊥
IsForMemory (command_line.NoImage fault) = ⊥
IsForMemory command_line.NoSubcommand = ⊥
IsForMemory command_line.NoMemory = Unit {0}
