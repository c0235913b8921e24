use Rattle.std.proofs.Common.{arith}
use Rattle.futures.specs.Runs.{EndsIf}
use Rattle.link_futures.proofs.GivesLemmas.{gives_woken, gives_woken_out, gives_waited}
use Rattle.link_futures.proofs.worker.Worker.wake.Goals.{in-Ok, in-Err}
use Rattle.link_futures.proofs.worker.Worker.wake.Goals as goal

pub loop-place-preserved : goal.loop-place-preserved
loop-place-preserved g c =
    let kept = c.loop-place.invariant in
    let keeps = c.poll_woken.ensures.kept in
    let count = c.in-Ready.ensures.count in
    elim c.match-woken.branch [
      | in-Ok w ↦ rw (w.self-is, w.push_reserved.ensures.items, c.reserve.ensures.items) (
        kept.0,
        kept.1,
        (λ fact held. keeps fact (kept.2 fact held)),
        omega (arith, kept.3, count),
        omega (arith, kept.4, count),
        λ n gives.
            kept.5 n
            (gives_woken g.R.AsyncRead.reads g.R.AsyncRead.is_at_end g.R.ReadPart.faults g.W.AsyncWrite.writes g.W.WriteParts.faults g.W.WriteParts.stalls g.D.Desk.answers (EndsIf c.loop-place.self.is_closed (g.A.Stream.yields c.loop-place.self.arrivals)) c.loop-place.self.lines.items _ c.loop-place.self.resting.lines c.poll_woken.new.self.lines c.loop-place.self.resting.count c.poll_woken.new.self.count c.loop-place.self.ended n count (rw w.in-Ok.is at c.in-Ready.ensures.ready) c.poll_woken.ensures.stay gives),
      )
      | in-Err w ↦ rw (w.self-is, c.reserve.ensures.items) (
        kept.0,
        kept.1,
        (λ fact held. keeps fact (kept.2 fact held)),
        omega (arith, kept.3, count),
        omega (arith, kept.4, count),
        λ n gives.
            kept.5 n
            (gives_woken_out g.R.AsyncRead.reads g.R.AsyncRead.is_at_end g.R.ReadPart.faults g.W.AsyncWrite.writes g.W.WriteParts.faults g.W.WriteParts.stalls g.D.Desk.answers (EndsIf c.loop-place.self.is_closed (g.A.Stream.yields c.loop-place.self.arrivals)) c.loop-place.self.lines.items c.loop-place.self.resting.lines c.poll_woken.new.self.lines c.loop-place.self.resting.count c.poll_woken.new.self.count c.loop-place.self.ended w.saturating_add-self.result n _ _ count (rw w.in-Err.is at c.in-Ready.ensures.ready) c.poll_woken.ensures.stay w.saturating_add-self.ensures gives),
      )
    ]

pub returns-in_default-clause-gives : goal.returns-in_default-clause-gives
returns-in_default-clause-gives g c =
    rw (c.reserve.ensures.items, c.in_default.ensures.waits)
    (λ n gives. c.loop-place.invariant.5 n (gives_waited g.R.AsyncRead.reads g.R.AsyncRead.is_at_end g.R.ReadPart.faults g.W.AsyncWrite.writes g.W.WriteParts.faults g.W.WriteParts.stalls g.D.Desk.answers (EndsIf c.loop-place.self.is_closed (g.A.Stream.yields c.loop-place.self.arrivals)) c.loop-place.self.lines.items c.loop-place.self.resting.lines c.poll_woken.new.self.lines c.loop-place.self.resting.count c.loop-place.self.ended n c.poll_woken.ensures.stay gives))
