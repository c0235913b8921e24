use Rattle.link_futures.proofs.BeatLemmas.{long_enough, Leaves_by, CallGives_earlier}
use Rattle.link_futures.proofs.beat.BeatFuture.poll.Goals as goal

pub finish-requires : goal.finish-requires
finish-requires g c =
    long_enough g.R.ReadPart.faults g.W.WriteParts.faults g.W.WriteParts.stalls g.R.AsyncRead.is_at_end c.in-Ready.end c.in-Some.call c.poll.new.self c.in-Ready.ensures.ends

pub returns-in-Ready-clause-polls : goal.returns-in-Ready-clause-polls
returns-in-Ready-clause-polls g c =
    rw (← c.in-Some.ensures.value) (
      c.poll.new.self,
      c.in-Ready.ensures.polls,
      record {
        reader = c.finish.ensures.reader;
        writer = c.finish.ensures.writer;
        member = Leaves_by _ _ _ _ c.in-Ready.end c.in-Some.call c.poll.new.self c.finish.result.member c.in-Ready.ensures.ends c.finish.ensures.member;
      },
    )

pub returns-in-Ready-clause-value : goal.returns-in-Ready-clause-value
returns-in-Ready-clause-value g c =
    rw (← c.in-Some.ensures.value) (record {
      last = c.poll.new.self;
      exchanges = c.in-Ready.ensures.polls.exchanges;
      back = record {
        reader = c.finish.ensures.reader;
        writer = c.finish.ensures.writer;
        member = Leaves_by _ _ _ _ c.in-Ready.end c.in-Some.call c.poll.new.self c.finish.result.member c.in-Ready.ensures.ends c.finish.ensures.member;
      };
    })

pub returns-in-Pending-clause-same : goal.returns-in-Pending-clause-same
returns-in-Pending-clause-same g c = λ after gives.
    rw (← c.in-Some.ensures.value) (CallGives_earlier g.R.ReadPart.faults g.W.WriteParts.faults g.W.WriteParts.stalls g.R.AsyncRead.is_at_end g.R.AsyncRead.reads g.W.AsyncWrite.writes
    g.met.R.AsyncRead.reads_in_order g.met.W.AsyncWrite.writes_in_order c.in-Some.call c.poll.new.self after c.in-Pending.ensures.polls c.in-Pending.ensures.goes_on gives)
