-- What a run over lines comes to: which lines it does, what it has written when it ends, and with which status.
use Rattle.std.specs.Prelude.{◌≡◌, ◌⊎◌, ℕ, ◌+◌, List, [], ◌∷◌, ◌++◌, length, Option, Some, None, IfSome}
use Rattle.std.specs.Io.KnownBytes.{Appends, Keeps}
use Rattle.scenario_text.specs.declared.command_line.Telling.{Telling}
use Rattle.scenario_text.specs.declared.command_line.Telling.TheVariants.{Numbers, Reasons}
use Rattle.scenario_text.specs.declared.fault.Fault.{Fault}
use Rattle.scenario_text.specs.declared.fault.Fault.TheVariants.{BadLine, Read, TooLong, Write, NoMemory}
use Rattle.scenario_text.specs.Inputs.{IsTooLong}
use Rattle.scenario_text.specs.Lines.{lines_of}
use Rattle.scenario_text.specs.Statuses.{status_of}
use Rattle.scenario_text.specs.Writing.{Grows, WritesPart}

-- What a line does: the state of its subcommand before it, the line, the state after it, and the text that it prints.
abbrev pub Effect : Type 0 → Type 1
Effect State = State → List ℕ → State → List ℕ → Type 0

-- Which lines there are: in which state of its subcommand a line is one.
abbrev pub Grammar : Type 0 → Type 1
Grammar State = State → List ℕ → Type 0

-- What the end of the input prints, by the state behind the last line.
abbrev pub Closing : Type 0 → Type 1
Closing State = State → List ℕ → Type 0

-- a text that satisfies P is printed behind what was
pub record Prints (P : List ℕ → Type 0) (before after : List ℕ) : Type 0 where
  pub text : List ℕ
  pub is_text : P text
  pub printed : after ≡ before ++ text

-- lines are done one after the other, and together they print the text
abbrev pub AreDone : {State : Type 0} → Effect State → List (List ℕ) → State → State → List ℕ → Type 0
AreDone does [] old new text = (new ≡ old) × (text ≡ [])
AreDone {State} does (line ∷ lines) old new text =
    (between : State) × (first : List ℕ) × (others : List ℕ)
    × does old line between first × AreDone does lines between new others × (text ≡ first ++ others)

-- lines are done, and their text is written
pub record WritesLines {State : Type 0} (does : Effect State) (lines : List (List ℕ)) (old : State) (before after : Option (List ℕ)) : Type 0 where
  pub new : State
  pub text : List ℕ
  pub done : AreDone does lines old new text
  pub written : Appends before after text

-- lines are done, and of their text the first bytes are written
pub record WritesPartOfLines {State : Type 0} (does : Effect State) (lines : List (List ℕ)) (old : State) (before after : Option (List ℕ)) : Type 0 where
  pub new : State
  pub text : List ℕ
  pub done : AreDone does lines old new text
  pub written : WritesPart before after text

-- All lines are done, and what the end prints is written behind their text.
pub record WritesAll {State : Type 0} (does : Effect State) (closes : Closing State) (lines : List (List ℕ)) (old : State) (before after : Option (List ℕ)) : Type 0 where
  pub new : State
  pub text : List ℕ
  pub last : List ℕ
  pub done : AreDone does lines old new text
  pub closed : closes new last
  pub written : Appends before after (text ++ last)

-- and of all that the first bytes are written
pub record WritesPartOfAll {State : Type 0} (does : Effect State) (closes : Closing State) (lines : List (List ℕ)) (old : State) (before after : Option (List ℕ)) : Type 0 where
  pub new : State
  pub text : List ℕ
  pub last : List ℕ
  pub done : AreDone does lines old new text
  pub closed : closes new last
  pub written : WritesPart before after (text ++ last)

-- At a line that is none in the state behind the lines before it, of which it is the next.
pub record StopsAtBadLine {State : Type 0} (does : Effect State) (takes : Grammar State) (lines : List (List ℕ)) (number : ℕ) (old : State) (before after : Option (List ℕ)) : Type 0 where
  pub first : List (List ℕ)
  pub bad : List ℕ
  pub left : List (List ℕ)
  pub parts : lines ≡ first ++ bad ∷ left
  pub numbered : number ≡ length first + 1
  pub writes : WritesLines does first old before after
  pub refused : ¬ takes writes.new bad

-- a fault that comes before any line: of the input, or of memory
abbrev pub IsOfReading : Fault → Type 0
IsOfReading (BadLine number) = ⊥
IsOfReading (Read error) = Unit {0}
IsOfReading TooLong = Unit {0}
IsOfReading (Write error) = ⊥
IsOfReading NoMemory = Unit {0}

-- a fault of the output
abbrev pub IsWrite : Fault → Type 0
IsWrite (BadLine number) = ⊥
IsWrite (Read error) = ⊥
IsWrite TooLong = ⊥
IsWrite (Write error) = Unit {0}
IsWrite NoMemory = ⊥

-- How a run over lines ends: with no fault where all are done, and a fault of reading comes before any line. At a bad
-- line, and where memory is out, the text of the lines before it is written.
abbrev pub Ends : {State : Type 0} → Effect State → Grammar State → Closing State → List (List ℕ) → State → Option (List ℕ) → Option (List ℕ) → Option Fault → Type 0
Ends does takes closes lines old before after None = WritesAll does closes lines old before after
Ends does takes closes lines old before after (Some (BadLine number)) = StopsAtBadLine does takes lines number old before after
Ends does takes closes lines old before after (Some (Read error)) = Keeps before after
Ends does takes closes lines old before after (Some TooLong) = Keeps before after
Ends does takes closes lines old before after (Some (Write error)) =
    ((first : List (List ℕ)) × (left : List (List ℕ)) × (lines ≡ first ++ left) × WritesPartOfLines does first old before after)
    ⊎ WritesPartOfAll does closes lines old before after
Ends does takes closes lines old before after (Some NoMemory) =
    (first : List (List ℕ)) × (left : List (List ℕ)) × (lines ≡ first ++ left) × WritesLines does first old before after

-- the same of the lines of an input, whose bytes a reader may know
pub record EndsOver {State : Type 0} (does : Effect State) (takes : Grammar State) (closes : Closing State) (old : State) (known before after : Option (List ℕ)) (fault : Option Fault) : Type 0 where
  pub input : List ℕ
  pub is_input : IfSome known (λ bytes. input ≡ bytes)
  pub ends : Ends does takes closes (lines_of input) old before after fault

-- the status is that of the fault, or 1 where memory was out for the fault's text
abbrev pub IsStatus : Option Fault → ℕ → Type 0
IsStatus None status = status ≡ 0
IsStatus (Some fault) status = (status ≡ status_of fault) ⊎ (status ≡ 1)

-- and 1 too where reasons are told, and memory was out for one
abbrev pub IsStatusTelling : Telling → Option Fault → ℕ → Type 0
IsStatusTelling Numbers fault status = IsStatus fault status
IsStatusTelling Reasons fault status = IsStatus fault status ⊎ (status ≡ 1)

-- A run of a subcommand, whose lines have an effect, which takes some lines in each state, and which may print more at the
-- end: over the bytes of its input, and with those that its two outputs hold before and after it, where these are known. An
-- input that is too long isn't begun, and where no reasons are told nothing is told of a run without a fault.
pub record RunsScript {State : Type 0} (does : Effect State) (takes : Grammar State) (closes : Closing State) (old : State) (telling : Telling) (input : Option (List ℕ)) (output errors : Option (List ℕ) × Option (List ℕ)) (status : ℕ) : Type 0 where
  pub fault : Option Fault
  pub ends : EndsOver does takes closes old input output.0 output.1 fault
  pub is_status : IsStatusTelling telling fault status
  pub too_long : IsTooLong input → (status ≡ 1) × Keeps output.0 output.1
  pub told : Grows errors.0 errors.1
  pub quiet : telling ≡ Numbers → status ≡ 0 → Keeps errors.0 errors.1

-- Nothing is printed at the end.
abbrev pub PrintsNothing : {State : Type 0} → Closing State
PrintsNothing state text = text ≡ []

-- A run of a subcommand that takes the same lines in every state, and prints nothing at the end.
abbrev pub RunsLines : {State : Type 0} → Effect State → (List ℕ → Type 0) → State → Telling → Option (List ℕ) → Option (List ℕ) × Option (List ℕ) → Option (List ℕ) × Option (List ℕ) → ℕ → Type 0
RunsLines does takes old telling input output errors status =
    RunsScript does (λ state. takes) PrintsNothing old telling input output errors status

-- How one line ends in a run, by the text that is printed and not yet written before and after it: a line that is done
-- is printed. What is held is written before the run ends at the line.
abbrev pub LineEnds : {State : Type 0} → Effect State → Grammar State → State → List ℕ → ℕ → State → List ℕ → List ℕ → Option (List ℕ) → Option (List ℕ) → Option Fault → Type 0
LineEnds does takes old line number new held held_after before after None =
    (text : List ℕ) × (written : List ℕ)
    × does old line new text × Appends before after written × (held ++ text ≡ written ++ held_after)
LineEnds does takes old line number new held held_after before after (Some (BadLine bad)) =
    (bad ≡ number) × (¬ takes old line) × Appends before after held
LineEnds does takes old line number new held held_after before after (Some (Read error)) = ⊥
LineEnds does takes old line number new held held_after before after (Some TooLong) = ⊥
LineEnds {State} does takes old line number new held held_after before after (Some (Write error)) =
    WritesPart before after held
    ⊎ ((between : State) × (text : List ℕ) × does old line between text × WritesPart before after (held ++ text))
LineEnds does takes old line number new held held_after before after (Some NoMemory) = Appends before after held

-- How a run ends behind its last line, by the text that is printed and not yet written.
abbrev pub EndEnds : {State : Type 0} → Closing State → State → List ℕ → Option (List ℕ) → Option (List ℕ) → Option Fault → Type 0
EndEnds closes old held before after None = (text : List ℕ) × closes old text × Appends before after (held ++ text)
EndEnds closes old held before after (Some (BadLine bad)) = ⊥
EndEnds closes old held before after (Some (Read error)) = ⊥
EndEnds closes old held before after (Some TooLong) = ⊥
EndEnds closes old held before after (Some (Write error)) =
    WritesPart before after held ⊎ ((text : List ℕ) × closes old text × WritesPart before after (held ++ text))
EndEnds closes old held before after (Some NoMemory) = Appends before after held
