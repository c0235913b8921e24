use Rattle.std.proofs.Common.{◌≡◌, length, []}
use Rattle.std.specs.List.{All}
use Rattle.uniform_assign.specs.Piles.{Hand}
use Rattle.uniform_assign.proofs.piles.no_piles.Given as goal

abbrev pub invariant-loop : goal.invariant-loop
invariant-loop l = (length l.piles.items ≡ l.counter) × All (λ (hand : Hand). hand.items ≡ []) l.piles.items
