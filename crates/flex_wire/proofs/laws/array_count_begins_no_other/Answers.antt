use Rattle.flex_wire.proofs.Fields.{begins_no_other}
use Rattle.flex_wire.proofs.CountLaws.{array_count_is_field}
use Rattle.flex_wire.proofs.laws.array_count_begins_no_other.Goals as goal

pub returns : goal.returns
returns c = begins_no_other array_count_is_field
