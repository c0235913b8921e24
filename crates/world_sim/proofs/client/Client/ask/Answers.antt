use Rattle.std.proofs.Common.{List, ℕ, ◌+◌, Ok, sym, subst}
use Rattle.member_core.specs.Client.{Client}
use Rattle.member_core.specs.Refusing.{Sends}
use Rattle.world_sim.specs.declared.standing.Standing.{Standing}
use Rattle.world_sim.specs.Standing.{Asked, ask_value, client_of}
use Rattle.world_sim.specs.Clients.{AsksWithin, IsClient}
use Rattle.world_sim.proofs.Clients.{asks_within, one_more_number}
use Rattle.world_sim.proofs.client.Client.ask.Goals as goal

sends : (c : goal.After-of) → Sends (client_of c.self.inside.standing) (ask_value c.args.ask) c.in_ok-frame.frame.items (client_of c.ask-standing.result.0)
sends c =
    subst (λ (s : Standing). Asked (client_of s) (ask_value c.args.ask) (Ok c.in_ok-frame.frame) (client_of c.ask-standing.result.0)) c.replace.ensures.value
    (subst (λ r. Asked (client_of c.replace.result) (ask_value c.args.ask) r (client_of c.ask-standing.result.0)) c.in_ok-frame.was c.ask-standing.ensures)

pub invariant_of-self-2 : goal.invariant_of-self-2
invariant_of-self-2 c =
    subst (λ (s : Standing). IsClient (record c.self.inside { standing = s; requests = c.self.inside.requests + 1 })) (sym c.put.ensures)
    (one_more_number c.self.inside c.ask-standing.result.0 (ask_value c.args.ask) c.in_ok-frame.frame.items c.self.invariant (sends c))

pub returns-clause-asks : goal.returns-clause-asks
returns-clause-asks c =
    let new = client_of c.ask-standing.result.0 in
    subst (λ (s : Standing). AsksWithin c.args.self.now (ask_value c.args.ask) c.of.result (client_of s)) (sym c.put.ensures)
    (subst (λ (old : Client). AsksWithin old (ask_value c.args.ask) c.of.result new) c.self.view_is
    (subst (λ (body : List ℕ). AsksWithin (client_of c.self.inside.standing) (ask_value c.args.ask) body new) (sym c.of.ensures)
    (asks_within (client_of c.self.inside.standing) new (ask_value c.args.ask) c.in_ok-frame.frame.items (sends c))))
