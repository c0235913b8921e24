-- What a session may give: the end of its line, after any number of turns.
use Rattle.std.specs.Prelude.{ℕ}
use Rattle.tokio.specs.Io.Moved.{Passes}
use Rattle.link_futures.specs.declared.end.End.{End}
use Rattle.link_futures.specs.declared.session.Session.{Session}
use Rattle.link_futures.specs.Desks.{Answering}
use Rattle.link_futures.specs.Stream.{Talks, EndsAs}

-- From a session's state its line may go on, and then end so.
abbrev pub MayEnd : {R W D : Type 0} → Passes R → (R → Type 0) → (R → ℕ) → Passes W → (W → ℕ) → (W → ℕ) → Answering D → Session R W D → End → Type 0
MayEnd {R} {W} {D} reads is_at_end read_faults writes write_faults stalls answers s end =
    (last : Session R W D) × Talks reads is_at_end writes answers s last × EndsAs read_faults write_faults stalls end s.line last.line
