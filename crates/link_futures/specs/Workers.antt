-- What a worker waits for, and what it gives.
use Rattle.std.specs.Prelude.{◌≡◌, ◌⊎◌, ℕ, ◌+◌, ◌-◌, ◌^◌, ◌<◌, ◌≤◌, min, Bool, false, List, ◌++◌, length, slice_index_or, All, Contains, Option, None, Ok, Err}
use Rattle.tokio.specs.Io.Moved.{Passes}
use Rattle.futures.specs.Runs.{Runs}
use Rattle.futures.specs.Task.{Covers}
use Rattle.futures.specs.declared.task.context.Context.{Context}
use Rattle.futures.specs.declared.stream.futures_unordered.FuturesUnordered.{FuturesUnordered}
use Rattle.link_futures.specs.declared.end.End.{End}
use Rattle.link_futures.specs.declared.line.Line.{Line}
use Rattle.link_futures.specs.declared.quiet.Quiet.{Quiet}
use Rattle.link_futures.specs.declared.session.Session.{Session}
use Rattle.link_futures.specs.Desks.{Answering}
use Rattle.link_futures.specs.Stream.{LineNeeds}
use Rattle.link_futures.specs.Sessions.{MayEnd}
use Rattle.link_futures.specs.Resting.{RestingNeed, MayWake}

-- the sources of its arrivals until these have ended, of each of its lines that have turns, and of those that rest
abbrev pub WorkerNeeds : {A R W F : Type 0} → (A → ℕ → Type 0) → (R → ℕ → Type 0) → (W → ℕ → Type 0) → (ℕ → Type 0)
    → A → Bool → List (Line R W) → Option (FuturesUnordered F) → ℕ → ℕ → Type 0
WorkerNeeds {A} {R} {W} arrive read write desk arrivals is_closed lines resting count source =
    ((is_closed ≡ false) × arrive arrivals source)
    ⊎ (((line : Line R W) × Contains lines line × LineNeeds read write desk line source)
    ⊎ ((0 < count) × RestingNeed resting source))

-- each line but those of a range is registered for what it needs, at a desk with these sources
abbrev pub AreArmedBut : {R W : Type 0} → (R → ℕ → Type 0) → (W → ℕ → Type 0) → (ℕ → Type 0) → Context → List (Line R W) → ℕ → ℕ → Type 0
AreArmedBut {R} {W} read write desk cx lines start end =
    (place : ℕ) (line : Line R W) → place < length lines → (place < start) ⊎ (end ≤ place) → Covers cx (LineNeeds read write desk (slice_index_or lines place line))

-- some answer of a desk, whatever state it is in: it also answers other lines
abbrev pub at_any_time : {D : Type 0} → Answering D → Answering (Unit {0})
at_any_time {D} answers before body stamp answer after = (d : D) × (e : D) × answers d body stamp answer e

module _ {R W D : Type 0} (reads : Passes R) (is_at_end : R → Type 0) (read_faults : R → ℕ) (writes : Passes W) (write_faults : W → ℕ) (stalls : W → ℕ) (answers : Answering D) where
  -- a line may end so, over a desk that others share: as a session may
  abbrev pub LineMayEnd : Line R W → End → Type 0
  LineMayEnd line end =
      let session : Session R W (Unit {0}) = record { line = line; desk = tt } in
      MayEnd reads is_at_end read_faults writes write_faults stalls (at_any_time answers) session end

  -- one of the lines may end so, or one of those that rest: it is woken and goes on, or its read is its end
  abbrev pub AnyMayEnd : List (Line R W) → Option (FuturesUnordered (Quiet (Line R W))) → End → Type 0
  AnyMayEnd lines resting end =
      ((line : Line R W) × Contains lines line × LineMayEnd line end)
      ⊎ (((last : Line R W) × MayWake reads is_at_end read_faults write_faults stalls resting (Err (last, end)))
      ⊎ ((line : Line R W) × MayWake reads is_at_end read_faults write_faults stalls resting (Ok line) × LineMayEnd line end))

  -- What a worker may give: the number of the lines that have ended, up to 2^64 - 1. All its lines have, those that rest and those
  -- that still arrived, and each as one of them may end.
  pub record WorkerGives (source : Runs (Line R W)) (lines : List (Line R W)) (resting : Option (FuturesUnordered (Quiet (Line R W)))) (count ended given : ℕ) : Type 0 where
    pub arrived : List (Line R W)
    pub comes : source arrived None
    pub ends : List End
    pub all : length ends ≡ length (lines ++ arrived) + count
    pub each : All (AnyMayEnd (lines ++ arrived) resting) ends
    pub counted : given ≡ min (ended + length ends) (2 ^ 64 - 1)
