use Rattle.std.proofs.Common.{◌≡◌, ◌-◌, ℕ, length}
use Rattle.futures.specs.Runs.{EndsIf}
use Rattle.futures.specs.Task.{Keeps}
use Rattle.link_futures.specs.Workers.{WorkerGives}
use Rattle.link_futures.proofs.WorkerLemmas.{AreArmed}
use Rattle.link_futures.proofs.worker.Worker.take_turns.Given as goal

abbrev pub invariant-loop-place : goal.invariant-loop-place
invariant-loop-place g l =
    AreArmed g.R.AsyncRead.needs g.W.AsyncWrite.needs (g.D.Desk.wakes l.self.desk) l.cx l.self.lines.items l.place l.first l.behind l.initial.turns.end × Keeps l.initial.cx l.cx
    × (l.self.arrivals ≡ l.initial.self.arrivals) × (l.self.is_closed ≡ l.initial.self.is_closed) × (l.self.resting ≡ l.initial.self.resting)
    × ((n : ℕ) → WorkerGives g.R.AsyncRead.reads g.R.AsyncRead.is_at_end g.R.ReadPart.faults g.W.AsyncWrite.writes g.W.WriteParts.faults g.W.WriteParts.stalls g.D.Desk.answers (EndsIf l.self.is_closed (g.A.Stream.yields l.self.arrivals)) l.self.lines.items l.self.resting.lines l.self.resting.count l.self.ended n
    → WorkerGives g.R.AsyncRead.reads g.R.AsyncRead.is_at_end g.R.ReadPart.faults g.W.AsyncWrite.writes g.W.WriteParts.faults g.W.WriteParts.stalls g.D.Desk.answers (EndsIf l.initial.self.is_closed (g.A.Stream.yields l.initial.self.arrivals)) l.initial.self.lines.items l.initial.self.resting.lines l.initial.self.resting.count l.initial.self.ended n)

abbrev pub decreases-loop-place : goal.decreases-loop-place
decreases-loop-place g l = length l.self.lines.items - l.place
