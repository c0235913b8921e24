use Rattle.world_sim.specs.Exclusivity.{CommitHeld, SinceGranted}
use Rattle.replica_worlds.proofs.Carried.{granted_since, held_if_taken}
use Rattle.replica_worlds.proofs.HappensNext.{bring_held}
use Rattle.replica_worlds.proofs.Simulated.{always_back}
use Rattle.replica_worlds.proofs.laws.commits_are_taken_while_held_over_replicas.Goals as goal

pub returns-clause-taken : goal.returns-clause-taken
returns-clause-taken c = always_back c.one_request_a_body.ensures c.one_answer.ensures c.every_act_keeps_the_invariant.ensures CommitHeld held_if_taken c.commits_are_taken_while_held.ensures.taken

pub returns-clause-since : goal.returns-clause-since
returns-clause-since c = always_back c.one_request_a_body.ensures c.one_answer.ensures c.every_act_keeps_the_invariant.ensures SinceGranted granted_since c.commits_are_taken_while_held.ensures.since

pub returns-clause-brought : goal.returns-clause-brought
returns-clause-brought c = bring_held c.one_request_a_body.ensures c.one_answer.ensures c.every_act_keeps_the_invariant.ensures c.commits_are_taken_while_held.ensures.brought
