use Rattle.std.proofs.Common.{sym, subst}
use Rattle.uniform_assign.specs.declared.order.TheConstants.{MOST}
use Rattle.uniform_assign.specs.Orders.{IsFirstAbove}
use Rattle.uniform_assign.proofs.Ordered.{first-above, first-within, nobody-above}
use Rattle.uniform_assign.proofs.order.Order.first_above.Goals as goal

pub returns-in_err-first : goal.returns-in_err-first
returns-in_err-first c = λ counts are.
    subst (IsFirstAbove counts c.args.limit) (sym c.from_residual.ensures) (nobody-above MOST c.args.limit counts c.args.self.now.lacks are c.in_err-first.ensures)

pub returns-then-first-limit : goal.returns-then-first-limit
returns-then-first-limit c = λ counts are.
    first-above MOST c.args.limit counts c.args.self.now.lacks are c.in_ok-first.first c.in_ok-first.ensures c.if-first-limit.true

pub returns-else-first-limit : goal.returns-else-first-limit
returns-else-first-limit c = λ counts are.
    first-within MOST c.args.limit counts c.args.self.now.lacks are c.in_ok-first.first c.in_ok-first.ensures c.if-first-limit.false
