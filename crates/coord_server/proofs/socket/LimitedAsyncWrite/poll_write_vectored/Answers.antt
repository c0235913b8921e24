use Rattle.std.proofs.Common.{subst}
use Rattle.std.specs.Io.Slices.{io_slices_bytes}
use Rattle.tokio.specs.Io.Moved.{bytes_moved}
use Rattle.coord_server.proofs.socket.LimitedAsyncWrite.poll_write_vectored.Goals as goal

-- the poll wrote nothing, and what the writer itself took is all that was written
pub returns-in-Ready-clause-bytes : goal.returns-in-Ready-clause-bytes
returns-in-Ready-clause-bytes g c =
    let last = subst (λ between. g.T.AsyncWrite.writes between (bytes_moved c.write_all_last.result (io_slices_bytes c.args.bufs.now)) c.write_all_last.new.self.inner) c.poll_silence.ensures.inner.0 c.write_all_last.ensures.bytes in
    g.met.T.AsyncWrite.writes_in_order _ _ _ _ _ c.in-Pending.ensures.bytes last
