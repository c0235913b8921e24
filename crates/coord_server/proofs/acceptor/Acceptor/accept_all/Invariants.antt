use Rattle.std.proofs.Common.{◌≡◌}
use Rattle.coord_server.proofs.acceptor.Acceptor.accept_all.Given as goal

abbrev pub invariant-loop : goal.invariant-loop
invariant-loop g l =
    (goal.iterator-loop g).can_next l.iterator' × (goal.iterator-loop g).is_finite l.iterator'
    × (l.self.most ≡ l.initial.self.most)
