use Rattle.std.proofs.Common.{IsOk, All}
use Rattle.coord_server.proofs.event_loops.find_fault.Given as goal

abbrev pub invariant-loop-ended : goal.invariant-loop-ended
invariant-loop-ended l = All IsOk l.yielded
