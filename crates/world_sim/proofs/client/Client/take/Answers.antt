use Rattle.std.proofs.Common.{sym, subst}
use Rattle.world_sim.specs.declared.standing.Standing.{Standing}
use Rattle.world_sim.specs.Clients.{IsClient}
use Rattle.world_sim.proofs.Clients.{like_taking, like_of, still}
use Rattle.world_sim.proofs.client.Client.take.Goals as goal

pub invariant_of-self : goal.invariant_of-self
invariant_of-self c =
    subst (λ (s : Standing). IsClient (record c.self.inside { standing = s })) (sym c.put.ensures)
    (still c.self.inside c.take-standing.result.0 c.self.invariant
    (like_of c.replace.result c.self.inside.standing _ c.replace.ensures.value (like_taking c.take-standing.result.1 _ _ c.args.body.now c.take-standing.ensures)))
