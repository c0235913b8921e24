use Rattle.std.proofs.Common.{arith}
use Rattle.std.specs.Int.{w64}
use Rattle.flex_wire.proofs.Fields.{found_by, only_by}
use Rattle.flex_wire.proofs.IntLaws.{signed_is_field, wide64}
use Rattle.flex_wire.proofs.int.take_i64.Goals as goal

pub returns-clause-found : goal.returns-clause-found
returns-clause-found c = found_by (λ x. (x.0, x.1.now)) (signed_is_field w64 wide64) c.args.bytes.now (λ i. omega (arith, c.type_inv.bytes i)) c.i64_of.result c.i64_of.ensures

pub returns-clause-only : goal.returns-clause-only
returns-clause-only c = only_by (λ x. (x.0, x.1.now)) (signed_is_field w64 wide64) c.args.bytes.now c.i64_of.result c.i64_of.ensures
