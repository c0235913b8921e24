use Rattle.std.proofs.Common.{◌≡◌, ◌-◌}
use Rattle.flex_wire.specs.Reading.{compact_string_at}
use Rattle.flex_wire.specs.Composed.{elements_at}
use Rattle.flex_wire.proofs.Scan.{with_front}
use Rattle.broker_messages.specs.Heartbeat.{texts}
use Rattle.broker_messages.proofs.heartbeat.reading.names_of.Given as goal

abbrev pub invariant-loop : goal.invariant-loop
invariant-loop l = with_front (texts l.names.items) (elements_at compact_string_at (l.count - l.counter) l.rest) ≡ elements_at compact_string_at l.count l.bytes
