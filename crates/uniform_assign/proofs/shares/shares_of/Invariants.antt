use Rattle.std.proofs.Common.{◌≡◌, ◌++◌, filter}
use Rattle.range_assign.specs.Shares.{shares_in}
use Rattle.uniform_assign.specs.Hands.{hands_in, has_parts}
use Rattle.uniform_assign.proofs.shares.shares_of.Given as goal

-- the shares that were made, and then those of the hands that are left
abbrev pub invariant-loop-hand : goal.invariant-loop-hand
invariant-loop-hand l = shares_in l.shares.items ++ hands_in (filter has_parts l.hand-iterator.rest.items) ≡ hands_in (filter has_parts l.fn.hands.items)
