use Rattle.flex_wire.proofs.Fields.{begins_no_other}
use Rattle.flex_wire.proofs.IntLaws.{uuid_is_field}
use Rattle.flex_wire.proofs.laws.uuid_begins_no_other.Goals as goal

pub returns : goal.returns
returns c = begins_no_other uuid_is_field
