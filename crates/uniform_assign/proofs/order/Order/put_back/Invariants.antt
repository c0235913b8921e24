use Rattle.std.proofs.Common.{ℕ, List}
use Rattle.uniform_assign.specs.Orders.{AreShown, IsOrder}
use Rattle.uniform_assign.proofs.order.Order.put_back.Given as goal

-- those that were looked at are shown with their counts
abbrev pub invariant-loop-member : goal.invariant-loop-member
invariant-loop-member l = (shown : List ℕ) × AreShown l.counts l.aside l.member-index shown × IsOrder shown l.self
