-- What becomes of a line that waits for its reader alone.
use Rattle.std.specs.Prelude.{◌≡◌, ℕ, Option, IsSomeAnd, Result, Ok, Err}
use Rattle.tokio.specs.Io.Moved.{Passes}
use Rattle.futures.specs.declared.stream.futures_unordered.FuturesUnordered.{FuturesUnordered}
use Rattle.futures.specs.Queued.{AnyGives, set_places}
use Rattle.link_futures.specs.declared.end.End.{End}
use Rattle.link_futures.specs.declared.line.Line.{Line}
use Rattle.link_futures.specs.declared.quiet.Quiet.{Quiet}
use Rattle.link_futures.specs.Steps.{ReadsOn}
use Rattle.link_futures.specs.Stream.{EndsAs, MetNoFault}

-- the source of the set of lines that rest, which each wake of one of them fires
abbrev pub RestingNeed : {F : Type 0} → Option (FuturesUnordered F) → ℕ → Type 0
RestingNeed resting source = IsSomeAnd resting (λ set. source ≡ set.tasks.source.id)

module _ {R W : Type 0} (reads : Passes R) (is_at_end : R → Type 0) (read_faults : R → ℕ) (write_faults : W → ℕ) (stalls : W → ℕ) where
  -- A line is woken as the same line, with the same bytes and those that it read after them; or its read was its end.
  abbrev pub Wakes : Line R W → Result (Line R W) (Line R W × End) → Type 0
  Wakes line (Ok woken) = ReadsOn reads is_at_end line woken × MetNoFault read_faults write_faults stalls line woken
  Wakes line (Err failed) = ReadsOn reads is_at_end line failed.0 × EndsAs read_faults write_faults stalls failed.1 line failed.0

  -- one of the lines that rest may be woken so
  abbrev pub MayWake : Option (FuturesUnordered (Quiet (Line R W))) → Result (Line R W) (Line R W × End) → Type 0
  MayWake resting woken =
      IsSomeAnd resting (λ set. AnyGives (λ (q : Quiet (Line R W)) (x : Result (Line R W) (Line R W × End)). IsSomeAnd q.line (λ line. Wakes line x)) (set_places set) woken)
