use Rattle.std.proofs.Common.{inl, inr, ⊎_elim}
use Rattle.link_futures.proofs.RestingLemmas.{gives_made}
use Rattle.link_futures.proofs.resting.Resting+Line+R+W.rest.Goals as goal

pub returns-clause-wakes : goal.returns-clause-wakes
returns-clause-wakes g c = λ woken may.
    ⊎_elim
    (λ was. inl (gives_made _ c.args.self.now.lines c.make_set.new.lines c.in-Some-lines.lines c.in-Some-lines.is c.make_set.ensures.same woken was))
    (λ is. inr is)
    (c.push.ensures.gives woken may)

pub returns-in-Err-clause-refused : goal.returns-in-Err-clause-refused
returns-in-Err-clause-refused g c = λ woken may.
    gives_made _ c.args.self.now.lines c.make_set.new.lines c.in-Some-lines.lines c.in-Some-lines.is c.make_set.ensures.same woken (c.in-Err.ensures.refused woken may)
