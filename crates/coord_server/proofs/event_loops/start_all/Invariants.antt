use Rattle.std.proofs.Common.{◌≡◌, map, length, vec_len}
use Rattle.coord_server.proofs.event_loops.start_all.Given as goal

abbrev pub invariant-loop-event_loop : goal.invariant-loop-event_loop
invariant-loop-event_loop g l = record {
  each : map (λ thread. thread.promise.0.value) l.threads.items ≡ map (λ event_loop. event_loop.future) l.yielded;
  len : vec_len l.threads ≡ length l.yielded;
}
