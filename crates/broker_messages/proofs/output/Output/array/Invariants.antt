use Rattle.std.proofs.Common.{◌≡◌}
use Rattle.broker_messages.proofs.output.Output.array.Given as goal

abbrev pub invariant-loop-element : goal.invariant-loop-element
invariant-loop-element g l = l.self ≡ l.fn.self
