use Rattle.link_futures.proofs.RestingLemmas.{gives_after, gives_within, RestingNeed_covered}
use Rattle.link_futures.proofs.resting.Resting+Line+R+W.poll_woken.Goals as goal

pub returns-in-Ready-Some-clause-stay : goal.returns-in-Ready-Some-clause-stay
returns-in-Ready-Some-clause-stay g c = λ woken may.
    rw c.in-Some.is (gives_after _ c.in-Some.lines c.poll_next-polled.new.self c.drop_empty.new.lines _ (rw c.in-Ready-Some.field-0-is at c.in-Ready-Some.ensures.rest) c.drop_empty.ensures woken may)

pub returns-in-Pending-clause-stay : goal.returns-in-Pending-clause-stay
returns-in-Pending-clause-stay g c = λ woken may.
    rw c.in-Some.is (gives_within _ c.in-Some.lines c.poll_next-polled.new.self c.drop_empty.new.lines c.in-Pending.ensures.same c.drop_empty.ensures woken may)

pub returns-in-Pending-clause-registered : goal.returns-in-Pending-clause-registered
returns-in-Pending-clause-registered g c =
    RestingNeed_covered c.poll_next-polled.new.cx c.poll_next-polled.new.self c.drop_empty.new.lines c.in-Pending.ensures.registered c.drop_empty.ensures
