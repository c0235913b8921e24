use Rattle.std.proofs.Common.{◌-◌, arith}
use Rattle.flex_wire.proofs.Fields.{AreBytes-take, AreBytes-drop}
use Rattle.flex_wire.proofs.VarintLaws.{groups_below}
use Rattle.flex_wire.proofs.varint.+groups_of.Goals as goal

pub overflow_mul-result : goal.overflow_mul-result
overflow_mul-result t c =
    let below = groups_below (c.args.more - 1) _ (c.in_ok-high.high, c.in_ok-high.rest.now) (omega arith) (AreBytes-take _ _ (AreBytes-drop 1 c.args.bytes.now (λ i. omega (arith, c.type_inv.bytes i)))) c.in_ok-high.ensures in
    omega (arith, below)

pub overflow_add-result : goal.overflow_add-result
overflow_add-result t c =
    let below = groups_below (c.args.more - 1) _ (c.in_ok-high.high, c.in_ok-high.rest.now) (omega arith) (AreBytes-take _ _ (AreBytes-drop 1 c.args.bytes.now (λ i. omega (arith, c.type_inv.bytes i)))) c.in_ok-high.ensures in
    omega (arith, below)
