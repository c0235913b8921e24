use Rattle.std.proofs.Common.{◌≡◌, ◌<◌, ℕ, false}
use Rattle.futures.specs.Runs.{EndsIf}
use Rattle.futures.specs.Task.{Covers, Keeps}
use Rattle.link_futures.specs.Resting.{RestingNeed}
use Rattle.link_futures.specs.Workers.{AreArmedBut, WorkerGives}
use Rattle.link_futures.proofs.worker.WorkerFuture.poll.Given as goal

abbrev pub invariant-loop-round : goal.invariant-loop-round
invariant-loop-round g l =
    (l.self.is_closed ≡ false → g.A.Stream.can_poll l.self.arrivals)
    × (l.has_come ≡ false → l.self.is_closed ≡ false → Covers l.cx (g.A.Stream.needs l.self.arrivals))
    × (l.has_come ≡ false → 0 < l.self.resting.count → Covers l.cx (RestingNeed l.self.resting.lines))
    × (l.has_come ≡ false → AreArmedBut g.R.AsyncRead.needs g.W.AsyncWrite.needs (g.D.Desk.wakes l.self.desk) l.cx l.self.lines.items l.going.start l.going.end) × Keeps l.initial.cx l.cx
    × ((n : ℕ) → WorkerGives g.R.AsyncRead.reads g.R.AsyncRead.is_at_end g.R.ReadPart.faults g.W.AsyncWrite.writes g.W.WriteParts.faults g.W.WriteParts.stalls g.D.Desk.answers (EndsIf l.self.is_closed (g.A.Stream.yields l.self.arrivals)) l.self.lines.items l.self.resting.lines l.self.resting.count l.self.ended n
    → WorkerGives g.R.AsyncRead.reads g.R.AsyncRead.is_at_end g.R.ReadPart.faults g.W.AsyncWrite.writes g.W.WriteParts.faults g.W.WriteParts.stalls g.D.Desk.answers (EndsIf l.initial.self.is_closed (g.A.Stream.yields l.initial.self.arrivals)) l.initial.self.lines.items l.initial.self.resting.lines l.initial.self.resting.count l.initial.self.ended n)
