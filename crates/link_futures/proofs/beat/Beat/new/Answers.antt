use Rattle.std.proofs.Common.{refl}
use Rattle.link_futures.proofs.BeatLemmas.{new_comes_to}
use Rattle.link_futures.proofs.beat.Beat.new.Goals as goal

pub returns-clause-gives : goal.returns-clause-gives
returns-clause-gives g c = λ after gives.
    new_comes_to g.R.ReadPart.faults g.W.WriteParts.faults g.W.WriteParts.stalls g.R.AsyncRead.is_at_end g.R.AsyncRead.reads g.W.AsyncWrite.writes _ c.args.reader c.args.writer c.args.member c.args.request.items after
    (record { reads = refl; writes = refl; waits = refl; unwritten = c.from_vec.ensures; heard = c.new.ensures.items }) gives
