use Rattle.link_futures.proofs.RestingLemmas.{Wakes_later}
use Rattle.link_futures.proofs.quiet.QuietLineFuture.poll.Goals as goal

pub returns-in-Ok-true-clause-same : goal.returns-in-Ok-true-clause-same
returns-in-Ok-true-clause-same g c = λ woken wakes.
    rw (← c.in-Some.ensures.value)
    (Wakes_later g.R.AsyncRead.reads g.R.AsyncRead.is_at_end g.R.ReadPart.faults g.W.WriteParts.faults g.W.WriteParts.stalls g.met.R.AsyncRead.reads_in_order c.in-Some.line c.read.new.self c.in-Ok-true.ensures.reads (c.in-Ok-true.ensures.waits cc) c.in-Ok-true.ensures.goes_on woken wakes)

pub returns-in-Err-clause-value : goal.returns-in-Err-clause-value
returns-in-Err-clause-value g c =
    rw (← c.in-Some.ensures.value) (c.in-Err.ensures.reads, c.in-Err.ensures.ends)
