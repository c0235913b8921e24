use Rattle.std.proofs.Common.{subst}
use Rattle.tokio.specs.Io.Moved.{bytes_moved}
use Rattle.coord_server.proofs.socket.LimitedAsyncRead.poll_read.Goals as goal

-- the poll read nothing, and what the reader itself had is all that was read
pub returns-in-Ready-clause-bytes : goal.returns-in-Ready-clause-bytes
returns-in-Ready-clause-bytes g c =
    let last = subst (λ between. g.T.AsyncRead.reads between (bytes_moved c.read_last.result c.read_last.new.buf) c.read_last.new.self.inner) c.poll_silence.ensures.inner.0 c.read_last.ensures.bytes in
    g.met.T.AsyncRead.reads_in_order _ _ _ _ _ c.in-Pending.ensures.bytes last
