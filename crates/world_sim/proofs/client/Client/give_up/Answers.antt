use Rattle.std.proofs.Common.{sym, subst}
use Rattle.world_sim.specs.declared.standing.Standing.{Standing}
use Rattle.world_sim.specs.Clients.{IsClient}
use Rattle.world_sim.proofs.Clients.{like_giving_up, like_of, still}
use Rattle.world_sim.proofs.client.Client.give_up.Goals as goal

pub invariant_of-self : goal.invariant_of-self
invariant_of-self c =
    subst (λ (s : Standing). IsClient (record c.self.inside { standing = s })) (sym c.put.ensures)
    (still c.self.inside c.give_up-standing.result.0 c.self.invariant
    (like_of c.replace.result c.self.inside.standing _ c.replace.ensures.value (like_giving_up _ _ _ c.give_up-standing.ensures.after)))
