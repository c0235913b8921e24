use Rattle.std.proofs.Common.{◌≡◌, ◌-◌, map}
use Rattle.flex_wire.specs.Composed.{elements_at}
use Rattle.flex_wire.proofs.Scan.{with_front}
use Rattle.kip_msgs.proofs.reading.arrays.elements_of.Given as goal

abbrev pub invariant-loop : goal.invariant-loop
invariant-loop g l =
    let read = g.T.TakeElement.element_at in
    with_front (map g.T.TakeElement.value_of l.elements.items) (elements_at read (l.count - l.counter) l.rest) ≡ elements_at read l.count l.bytes
