use Rattle.flex_wire.proofs.Fields.{begins_no_other}
use Rattle.flex_wire.proofs.TextLaws.{nullable_string_is_field}
use Rattle.flex_wire.proofs.laws.nullable_string_begins_no_other.Goals as goal

pub returns : goal.returns
returns c = begins_no_other nullable_string_is_field
