use Rattle.std.proofs.Common.{ℕ, subst, sym}
use Rattle.coord_server.specs.Senders.{AreSenders}
use Rattle.coord_server.proofs.server.Server.run.Goals as goal

pub new-acceptor-requires-clause-placed : goal.new-acceptor-requires-clause-placed
new-acceptor-requires-clause-placed g c =
    let made = c.in_ok-senders.ensures in
    let P : ℕ → Type 0 = λ workers. AreSenders workers c.in_ok-senders.senders.items in
    subst P (sym made.senders) made.placed
