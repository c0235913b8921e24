use Rattle.std.proofs.Common.{◌≡◌, ◌-◌, None}
use Rattle.flex_wire.specs.Reading.{tagged_fields_behind}
use Rattle.flex_wire.specs.Tags.{all_tagged}
use Rattle.flex_wire.proofs.Scan.{with_front}
use Rattle.flex_wire.proofs.tags.fields_of.Given as goal

abbrev pub invariant-loop : goal.invariant-loop
invariant-loop l = with_front (all_tagged l.fields.items) (tagged_fields_behind l.last (l.count - l.counter) l.rest) ≡ tagged_fields_behind None l.count l.bytes
