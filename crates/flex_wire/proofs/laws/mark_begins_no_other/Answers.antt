use Rattle.flex_wire.proofs.Fields.{begins_no_other}
use Rattle.flex_wire.proofs.MarkLaws.{mark_is_field}
use Rattle.flex_wire.proofs.laws.mark_begins_no_other.Goals as goal

pub returns : goal.returns
returns c = begins_no_other mark_is_field
