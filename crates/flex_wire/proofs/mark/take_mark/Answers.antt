use Rattle.std.proofs.Common.{arith}
use Rattle.std.proofs.lemmas.Result.{IfOk-weaker}
use Rattle.flex_wire.proofs.Fields.{found_by, only_by}
use Rattle.flex_wire.proofs.MarkLaws.{mark_is_field}
use Rattle.flex_wire.proofs.mark.take_mark.Goals as goal

pub returns-clause-found : goal.returns-clause-found
returns-clause-found c = IfOk-weaker c.mark_of.result _ _ (λ x p. p.1) (found_by (λ x. (x.0, x.1.now)) mark_is_field c.args.bytes.now (λ i. omega (arith, c.type_inv.bytes i)) c.mark_of.result c.mark_of.ensures)

pub returns-clause-only : goal.returns-clause-only
returns-clause-only c = λ present rest is. only_by (λ x. (x.0, x.1.now)) mark_is_field c.args.bytes.now c.mark_of.result c.mark_of.ensures present rest tt is
