use Rattle.std.proofs.Common.{true, None}
use Rattle.futures.specs.Runs.{EndsIf}
use Rattle.link_futures.proofs.GivesLemmas.{gives_arrived, gives_within}
use Rattle.link_futures.proofs.worker.Worker.poll_arrival.Goals as goal

pub returns-in-Ready-Some-clause-gives : goal.returns-in-Ready-Some-clause-gives
returns-in-Ready-Some-clause-gives g c =
    rw (c.if-self.false, c.push_reserved.ensures.items, c.reserve.ensures.items)
    (λ n gives.
    gives_arrived g.R.AsyncRead.reads g.R.AsyncRead.is_at_end g.R.ReadPart.faults g.W.AsyncWrite.writes g.W.WriteParts.faults g.W.WriteParts.stalls g.D.Desk.answers (g.A.Stream.yields c.args.self.now.arrivals) (g.A.Stream.yields c.poll_next.new.self) _ _ _ _ _ n
    (λ xs. (rw c.in-Ready-Some.field-0-is at c.in-Ready-Some.ensures.rest) xs None) gives)

pub returns-in-Ready-None-clause-gives : goal.returns-in-Ready-None-clause-gives
returns-in-Ready-None-clause-gives g c =
    rw (c.if-self.false, c.reserve.ensures.items)
    (λ n gives.
    gives_within g.R.AsyncRead.reads g.R.AsyncRead.is_at_end g.R.ReadPart.faults g.W.AsyncWrite.writes g.W.WriteParts.faults g.W.WriteParts.stalls g.D.Desk.answers (g.A.Stream.yields c.args.self.now.arrivals) (EndsIf true (g.A.Stream.yields c.poll_next.new.self)) _ _ _ _ n
    (λ xs ends. rw ends.0 (rw c.in-Ready-None.field-0-is at c.in-Ready-None.ensures.value)) gives)

pub returns-in-Pending-clause-gives : goal.returns-in-Pending-clause-gives
returns-in-Pending-clause-gives g c =
    rw (c.if-self.false, c.reserve.ensures.items)
    (λ n gives.
    gives_within g.R.AsyncRead.reads g.R.AsyncRead.is_at_end g.R.ReadPart.faults g.W.AsyncWrite.writes g.W.WriteParts.faults g.W.WriteParts.stalls g.D.Desk.answers (g.A.Stream.yields c.args.self.now.arrivals) (g.A.Stream.yields c.poll_next.new.self) _ _ _ _ n
    (λ xs. c.in-Pending.ensures.same xs None) gives)
