use Rattle.std.proofs.Common.{refl}
use Rattle.link_futures.proofs.TurnLemmas.{WritesOn_same}
use Rattle.link_futures.proofs.line.Line.write.Goals as goal

pub returns-then-self-clause-writes : goal.returns-then-self-clause-writes
returns-then-self-clause-writes g c =
    WritesOn_same _ g.met.W.AsyncWrite.writes_nothing c.args.self.now _ _ _ refl refl

pub returns-then-most-eq0-clause-writes : goal.returns-then-most-eq0-clause-writes
returns-then-most-eq0-clause-writes g c =
    WritesOn_same _ g.met.W.AsyncWrite.writes_nothing c.args.self.now _ _ _ refl refl

pub returns-in_default-write-clause-writes : goal.returns-in_default-write-clause-writes
returns-in_default-write-clause-writes g c =
    let err = c.in_default-write.ensures.err in
    WritesOn_same _ g.met.W.AsyncWrite.writes_nothing c.args.self.now _ _ _ err.1 err.0
