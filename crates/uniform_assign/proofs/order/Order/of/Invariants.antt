use Rattle.uniform_assign.specs.declared.order.TheConstants.{MOST}
use Rattle.uniform_assign.proofs.Ordered.{AreListedTo}
use Rattle.uniform_assign.proofs.order.Order.of.Given as goal

-- the members that were looked at are listed
abbrev pub invariant-loop-member : goal.invariant-loop-member
invariant-loop-member l = AreListedTo MOST l.counts l.lacks.items l.members.items l.member
