use Rattle.std.proofs.Common.{arith}
use Rattle.std.specs.Option.{option_copied}
use Rattle.flex_wire.proofs.Fields.{found_by, only_by}
use Rattle.flex_wire.proofs.TextLaws.{nullable_string_is_field}
use Rattle.flex_wire.proofs.text.take_old_str.Goals as goal

pub returns-clause-found : goal.returns-clause-found
returns-clause-found c = found_by (λ x. (option_copied x.0, x.1.now)) nullable_string_is_field c.args.bytes.now (λ i. omega (arith, c.type_inv.bytes i)) c.old_str_of.result c.old_str_of.ensures

pub returns-clause-only : goal.returns-clause-only
returns-clause-only c = only_by (λ x. (option_copied x.0, x.1.now)) nullable_string_is_field c.args.bytes.now c.old_str_of.result c.old_str_of.ensures
