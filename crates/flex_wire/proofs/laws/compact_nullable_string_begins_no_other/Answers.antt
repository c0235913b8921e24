use Rattle.flex_wire.proofs.Fields.{begins_no_other}
use Rattle.flex_wire.proofs.TextLaws.{compact_nullable_string_is_field}
use Rattle.flex_wire.proofs.laws.compact_nullable_string_begins_no_other.Goals as goal

pub returns : goal.returns
returns c = begins_no_other compact_nullable_string_is_field
