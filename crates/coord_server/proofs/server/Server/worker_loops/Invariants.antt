use Rattle.std.proofs.Common.{◌≡◌, vec_len}
use Rattle.coord_server.specs.Senders.{AreSenders}
use Rattle.coord_server.proofs.server.Server.worker_loops.Given as goal

abbrev pub invariant-loop : goal.invariant-loop
invariant-loop g l = record {
  senders : vec_len l.senders ≡ l.counter;
  workers : vec_len l.workers ≡ l.counter;
  placed : AreSenders l.initial.self.plan.workers l.senders.items;
}
