use Rattle.std.proofs.Common.{arith}
use Rattle.flex_wire.proofs.Fields.{found_by, only_by}
use Rattle.flex_wire.proofs.IntLaws.{uuid_is_field}
use Rattle.flex_wire.proofs.ident.take_uuid.Goals as goal

pub returns-clause-found : goal.returns-clause-found
returns-clause-found c = found_by (λ x. (x.0, x.1.now)) uuid_is_field c.args.bytes.now (λ i. omega (arith, c.type_inv.bytes i)) c.uuid_of.result c.uuid_of.ensures

pub returns-clause-only : goal.returns-clause-only
returns-clause-only c = only_by (λ x. (x.0, x.1.now)) uuid_is_field c.args.bytes.now c.uuid_of.result c.uuid_of.ensures
