use Rattle.std.specs.Int.{w16}
use Rattle.flex_wire.proofs.Fields.{begins_no_other}
use Rattle.flex_wire.proofs.IntLaws.{signed_is_field, wide16}
use Rattle.flex_wire.proofs.laws.int16_begins_no_other.Goals as goal

pub returns : goal.returns
returns c = begins_no_other (signed_is_field w16 wide16)
