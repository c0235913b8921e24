use Rattle.std.proofs.Common.{take}
use Rattle.std.specs.List.{flat_map}
use Rattle.flex_wire.specs.Spelling.{tagged_field}
use Rattle.flex_wire.specs.Tags.{all_tagged}
use Rattle.flex_wire.proofs.Puts.{HasPut}
use Rattle.flex_wire.proofs.tags.fields_up_to.Given as goal

abbrev pub invariant-loop-field : goal.invariant-loop-field
invariant-loop-field l = HasPut l.fn.out l.out (flat_map tagged_field (all_tagged (take l.field-index l.fields)))
