use Rattle.link_futures.proofs.SessionLemmas.{MayEnd_ready, MayEnd_pending}
use Rattle.link_futures.proofs.session.SessionFuture.poll.Goals as goal

pub returns-clause-value : goal.returns-clause-value
returns-clause-value g c =
    let stream = c.turn.ensures.stream in
    MayEnd_ready _ _ _ _ _ _ _ c.turn.result c.args.self.now c.turn.new.self stream.0 stream.1.talks c.turn.ensures.ends

pub returns-clause-same : goal.returns-clause-same
returns-clause-same g c =
    let stream = c.turn.ensures.stream in
    MayEnd_pending _ _ _ _ _ _ _ g.met.R.AsyncRead.reads_in_order g.met.W.AsyncWrite.writes_in_order _ c.turn.result c.args.self.now _ stream.0 stream.1.talks stream.2 c.turn.ensures.goes_on
