use Rattle.std.proofs.Common.{◌≡◌, vec_len}
use Rattle.coord_server.proofs.server.Server.expiry_loops.Given as goal

abbrev pub invariant-loop : goal.invariant-loop
invariant-loop g l = vec_len l.expiry ≡ l.counter
