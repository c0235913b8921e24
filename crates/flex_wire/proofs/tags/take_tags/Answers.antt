use Rattle.std.proofs.Common.{arith}
use Rattle.flex_wire.proofs.Fields.{found_in_memory_by, only_in_memory_by}
use Rattle.flex_wire.proofs.TagLaws.{tagged_fields_is_field}
use Rattle.flex_wire.proofs.tags.take_tags.Goals as goal

pub returns-clause-found : goal.returns-clause-found
returns-clause-found c = found_in_memory_by (λ x. (x.0, x.1.now)) tagged_fields_is_field c.args.bytes.now (λ i. omega (arith, c.type_inv.bytes i)) c.tags_of.result c.tags_of.ensures

pub returns-clause-only : goal.returns-clause-only
returns-clause-only c = only_in_memory_by (λ x. (x.0, x.1.now)) tagged_fields_is_field c.args.bytes.now c.tags_of.result c.tags_of.ensures
