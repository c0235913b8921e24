use Rattle.std.proofs.Common.{arith}
use Rattle.flex_wire.proofs.Fields.{found_by, only_by}
use Rattle.flex_wire.proofs.CountLaws.{nullable_array_count_is_field}
use Rattle.flex_wire.proofs.count.take_nullable_count.Goals as goal

pub returns-clause-found : goal.returns-clause-found
returns-clause-found c = found_by (λ x. (x.0, x.1.now)) nullable_array_count_is_field c.args.bytes.now (λ i. omega (arith, c.type_inv.bytes i)) c.count_or_null_of.result c.count_or_null_of.ensures

pub returns-clause-only : goal.returns-clause-only
returns-clause-only c = only_by (λ x. (x.0, x.1.now)) nullable_array_count_is_field c.args.bytes.now c.count_or_null_of.result c.count_or_null_of.ensures
