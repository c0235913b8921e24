use Rattle.std.proofs.Common.{◌≡◌, [], length, refl, arith, rules}
use Rattle.link_futures.proofs.BeatLemmas.{Polls_written, Polls_read}
use Rattle.link_futures.proofs.call.Call.poll.Goals as goal

pub returns-in-Waits-clause-polls : goal.returns-in-Waits-clause-polls
returns-in-Waits-clause-polls g c =
    Polls_written _ _ g.met.R.AsyncRead.reads_nothing c.args.self.now _ refl refl refl c.write_once.ensures.bytes

pub returns-in-Moved-clause-polls : goal.returns-in-Moved-clause-polls
returns-in-Moved-clause-polls g c =
    Polls_written _ _ g.met.R.AsyncRead.reads_nothing c.args.self.now _ refl refl refl c.write_once.ensures.bytes

pub returns-in-Fault-clause-polls : goal.returns-in-Fault-clause-polls
returns-in-Fault-clause-polls g c =
    Polls_written _ _ g.met.R.AsyncRead.reads_nothing c.args.self.now _ refl refl refl c.write_once.ensures.bytes

pub returns-in-Fault-2-clause-polls : goal.returns-in-Fault-2-clause-polls
returns-in-Fault-2-clause-polls g c =
    Polls_written _ _ g.met.R.AsyncRead.reads_nothing c.args.self.now _ refl refl refl c.write_once.ensures.bytes

pub returns-in_default-clause-polls : goal.returns-in_default-clause-polls
returns-in_default-clause-polls g c =
    let err = c.in_default.ensures.err in
    let new = record c.args.self.now { reader = c.read_into.new.reader; reply = c.read_into.new.buffer } in
    Polls_written _ _ g.met.R.AsyncRead.reads_nothing c.args.self.now new err.1 refl err.0 ([], g.met.W.AsyncWrite.writes_nothing c.args.self.now.writer, refl)

pub returns-in-Waits-part-clause-polls : goal.returns-in-Waits-part-clause-polls
returns-in-Waits-part-clause-polls g c =
    let new = record c.args.self.now { reader = c.read_into.new.reader; reply = c.read_into.new.buffer } in
    let written : length c.args.self.now.request.items ≡ 0 = search rules in
    Polls_read _ _ g.met.W.AsyncWrite.writes_nothing c.args.self.now new new _ refl refl refl written c.in-Ok.ensures.bytes (omega (arith, c.in-Ok.ensures.short)) refl

pub returns-in-Fault-part-clause-polls : goal.returns-in-Fault-part-clause-polls
returns-in-Fault-part-clause-polls g c =
    let new = record c.args.self.now { reader = c.read_into.new.reader; reply = c.read_into.new.buffer } in
    let written : length c.args.self.now.request.items ≡ 0 = search rules in
    Polls_read _ _ g.met.W.AsyncWrite.writes_nothing c.args.self.now new new _ refl refl refl written c.in-Ok.ensures.bytes (omega (arith, c.in-Ok.ensures.short)) refl

pub returns-in-Moved-eq0-clause-polls : goal.returns-in-Moved-eq0-clause-polls
returns-in-Moved-eq0-clause-polls g c =
    let new = record c.args.self.now { reader = c.read_into.new.reader; reply = c.read_into.new.buffer } in
    let written : length c.args.self.now.request.items ≡ 0 = search rules in
    Polls_read _ _ g.met.W.AsyncWrite.writes_nothing c.args.self.now new new _ refl refl refl written c.in-Ok.ensures.bytes (omega (arith, c.in-Ok.ensures.short)) refl

pub returns-in-Moved-eq0-2-clause-polls : goal.returns-in-Moved-eq0-2-clause-polls
returns-in-Moved-eq0-2-clause-polls g c =
    let new = record c.args.self.now { reader = c.read_into.new.reader; reply = c.read_into.new.buffer } in
    let written : length c.args.self.now.request.items ≡ 0 = search rules in
    Polls_read _ _ g.met.W.AsyncWrite.writes_nothing c.args.self.now new new _ refl refl refl written c.in-Ok.ensures.bytes (omega (arith, c.in-Ok.ensures.short)) refl

pub returns-in-Moved-part-clause-polls : goal.returns-in-Moved-part-clause-polls
returns-in-Moved-part-clause-polls g c =
    let mid = record c.args.self.now { reader = c.read_into.new.reader; reply = c.read_into.new.buffer } in
    let written : length c.args.self.now.request.items ≡ 0 = search rules in
    Polls_read _ _ g.met.W.AsyncWrite.writes_nothing c.args.self.now mid c.weigh.new.self _ refl refl refl written c.in-Ok.ensures.bytes (omega (arith, c.in-Ok.ensures.short)) c.weigh.ensures.others
