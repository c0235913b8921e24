use Rattle.std.specs.Int.{w64}
use Rattle.flex_wire.proofs.Fields.{begins_no_other}
use Rattle.flex_wire.proofs.IntLaws.{signed_is_field, wide64}
use Rattle.flex_wire.proofs.laws.int64_begins_no_other.Goals as goal

pub returns : goal.returns
returns c = begins_no_other (signed_is_field w64 wide64)
