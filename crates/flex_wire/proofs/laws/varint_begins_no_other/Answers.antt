use Rattle.flex_wire.proofs.Fields.{begins_no_other}
use Rattle.flex_wire.proofs.VarintLaws.{varint_is_field}
use Rattle.flex_wire.proofs.laws.varint_begins_no_other.Goals as goal

pub returns : goal.returns
returns c = begins_no_other varint_is_field
