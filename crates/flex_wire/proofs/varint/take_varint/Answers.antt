use Rattle.std.proofs.Common.{arith}
use Rattle.flex_wire.proofs.Fields.{found_by, only_by}
use Rattle.flex_wire.proofs.VarintLaws.{varint_is_field}
use Rattle.flex_wire.proofs.varint.take_varint.Goals as goal

pub returns-clause-found : goal.returns-clause-found
returns-clause-found c = found_by (λ x. (x.0, x.1.now)) varint_is_field c.args.bytes.now (λ i. omega (arith, c.type_inv.bytes i)) c.varint_of.result c.varint_of.ensures

pub returns-clause-only : goal.returns-clause-only
returns-clause-only c = only_by (λ x. (x.0, x.1.now)) varint_is_field c.args.bytes.now c.varint_of.result c.varint_of.ensures
