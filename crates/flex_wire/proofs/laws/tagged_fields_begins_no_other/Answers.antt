use Rattle.flex_wire.proofs.Fields.{begins_no_other}
use Rattle.flex_wire.proofs.TagLaws.{tagged_fields_is_field}
use Rattle.flex_wire.proofs.laws.tagged_fields_begins_no_other.Goals as goal

pub returns : goal.returns
returns c = begins_no_other tagged_fields_is_field
