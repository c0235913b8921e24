use Rattle.std.proofs.Common.{set as set_at, sym, subst, arith}
use Rattle.uniform_assign.specs.declared.order.TheConstants.{MOST}
use Rattle.uniform_assign.specs.Orders.{AreLacks}
use Rattle.uniform_assign.proofs.Ordered.{AreLacks-set}
use Rattle.uniform_assign.proofs.order.Order.set.Goals as goal

pub returns : goal.returns
returns c = λ counts are.
    let member = c.args.member in
    let count = c.args.count in
    let lacks = c.args.self.now.lacks in
    let low = c.requires in
    let fits = c.ranges.count in
    let many = are.as_many in
    subst (AreLacks MOST (set_at counts member count)) (sym c.set.ensures) (AreLacks-set MOST counts lacks member count are (omega arith) (omega arith))
