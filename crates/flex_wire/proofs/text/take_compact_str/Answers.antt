use Rattle.std.proofs.Common.{arith}
use Rattle.flex_wire.proofs.Fields.{found_by, only_by}
use Rattle.flex_wire.proofs.TextLaws.{compact_string_is_field}
use Rattle.flex_wire.proofs.text.take_compact_str.Goals as goal

pub returns-clause-found : goal.returns-clause-found
returns-clause-found c = found_by (λ x. (x.0.now, x.1.now)) compact_string_is_field c.args.bytes.now (λ i. omega (arith, c.type_inv.bytes i)) c.compact_str_of.result c.compact_str_of.ensures

pub returns-clause-only : goal.returns-clause-only
returns-clause-only c = only_by (λ x. (x.0.now, x.1.now)) compact_string_is_field c.args.bytes.now c.compact_str_of.result c.compact_str_of.ensures
