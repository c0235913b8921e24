use Rattle.std.proofs.Common.{◌≡◌, length, []}
use Rattle.std.specs.List.{All}
use Rattle.uniform_assign.specs.Piles.{Listed}
use Rattle.uniform_assign.proofs.piles.no_lists.Given as goal

abbrev pub invariant-loop-count : goal.invariant-loop-count
invariant-loop-count l = (length l.lists.items ≡ l.count-index) × All (λ (list : Listed). list.items ≡ []) l.lists.items
