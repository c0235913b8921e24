use Rattle.std.proofs.Common.{arith, get_or, sym, true≢false}
use Rattle.futures.specs.Runs.{EndsIf}
use Rattle.link_futures.proofs.GivesLemmas.{contains_left, gives_rested, gives_kept}
use Rattle.link_futures.proofs.worker.Worker.rest_all.Goals as goal

pub loop-place-preserved : goal.loop-place-preserved
loop-place-preserved g c =
    let kept = c.loop-place.invariant in
    let place = c.loop-place.place in
    let lines = c.loop-place.self.lines.items in
    let left = c.swap_remove.new.self.items in
    let n = c.loop-place.self.lines.len in (
      kept.0,
      kept.1,
      (λ e. absurd (true≢false e)),
      λ given gives.
          kept.3 given
          (gives_rested g.R.AsyncRead.reads g.R.AsyncRead.is_at_end g.R.ReadPart.faults g.W.AsyncWrite.writes g.W.WriteParts.faults g.W.WriteParts.stalls g.D.Desk.answers g.met.W.AsyncWrite.writes_nothing g.met.R.AsyncRead.reads_in_order g.met.W.AsyncWrite.writes_in_order (EndsIf c.loop-place.self.is_closed (g.A.Stream.yields c.loop-place.self.arrivals)) lines left c.swap_remove.result c.loop-place.self.resting.lines c.rest.new.self.lines c.rest.new.self.count c.loop-place.self.resting.count c.loop-place.self.ended given
          (omega arith) c.in_default.ensures.count (place, omega arith, sym {b = get_or lines place c.swap_remove.result} c.swap_remove.ensures.value)
          (λ other. contains_left lines left n place other (omega arith) (omega arith) c.swap_remove.ensures.by_index.0 c.swap_remove.ensures.by_index.1)
          c.in_default.ensures.wakes gives),
    )

pub returns-in-Err-clause-gives : goal.returns-in-Err-clause-gives
returns-in-Err-clause-gives g c =
    let place = c.loop-place.place in
    let lines = c.loop-place.self.lines.items in
    let left = c.swap_remove.new.self.items in
    let n = c.loop-place.self.lines.len in
    rw (c.push_reserved.ensures.items, c.in-Err.ensures.err, c.in-Err.ensures.value_returned)
    (λ given gives.
    c.loop-place.invariant.3 given
    (gives_kept g.R.AsyncRead.reads g.R.AsyncRead.is_at_end g.R.ReadPart.faults g.W.AsyncWrite.writes g.W.WriteParts.faults g.W.WriteParts.stalls g.D.Desk.answers (EndsIf c.loop-place.self.is_closed (g.A.Stream.yields c.loop-place.self.arrivals)) lines left c.swap_remove.result c.loop-place.self.resting.lines c.rest.new.self.lines c.loop-place.self.resting.count c.loop-place.self.ended given (omega arith) (place, omega arith, sym {b = get_or lines place c.swap_remove.result} c.swap_remove.ensures.value)
    (λ other. contains_left lines left n place other (omega arith) (omega arith) c.swap_remove.ensures.by_index.0 c.swap_remove.ensures.by_index.1)
    c.in-Err.ensures.refused gives))
