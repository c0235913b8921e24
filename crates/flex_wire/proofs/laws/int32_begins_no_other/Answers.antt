use Rattle.std.specs.Int.{w32}
use Rattle.flex_wire.proofs.Fields.{begins_no_other}
use Rattle.flex_wire.proofs.IntLaws.{signed_is_field, wide32}
use Rattle.flex_wire.proofs.laws.int32_begins_no_other.Goals as goal

pub returns : goal.returns
returns c = begins_no_other (signed_is_field w32 wide32)
