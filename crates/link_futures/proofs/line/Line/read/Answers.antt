use Rattle.std.proofs.Common.{refl}
use Rattle.link_futures.proofs.TurnLemmas.{ReadsOn_nothing}
use Rattle.link_futures.proofs.line.Line.read.Goals as goal

pub returns-then-not-wants_bytes-clause-reads : goal.returns-then-not-wants_bytes-clause-reads
returns-then-not-wants_bytes-clause-reads g c =
    ReadsOn_nothing _ _ g.met.R.AsyncRead.reads_nothing c.args.self.now _ _ refl refl

pub returns-in_default-clause-reads : goal.returns-in_default-clause-reads
returns-in_default-clause-reads g c =
    let err = c.in_default.ensures.err in
    ReadsOn_nothing _ _ g.met.R.AsyncRead.reads_nothing c.args.self.now _ _ err.1 err.0
