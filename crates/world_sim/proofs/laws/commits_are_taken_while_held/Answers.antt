use Rattle.world_sim.proofs.Exclusive.{commit_held, since_granted}
use Rattle.world_sim.proofs.Brought.{brings_held}
use Rattle.world_sim.proofs.laws.commits_are_taken_while_held.Goals as goal

pub returns-clause-taken : goal.returns-clause-taken
returns-clause-taken c = λ salt clients acts outcomes w run. commit_held w (c.every_act_keeps_the_invariant.ensures salt clients acts outcomes w run)

pub returns-clause-since : goal.returns-clause-since
returns-clause-since c = λ salt clients acts outcomes w run. since_granted w (c.every_act_keeps_the_invariant.ensures salt clients acts outcomes w run)

pub returns-clause-brought : goal.returns-clause-brought
returns-clause-brought c = λ salt clients acts outcomes w run.
    let keeps = c.every_act_keeps_the_invariant.ensures salt clients acts outcomes w run in
    brings_held c.one_request_a_body.ensures c.one_reply_a_body.ensures w keeps (commit_held w keeps)
