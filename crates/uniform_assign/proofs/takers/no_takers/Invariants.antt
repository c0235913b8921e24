use Rattle.std.proofs.Common.{◌≡◌, ℕ, length, []}
use Rattle.std.specs.Global.{Vec}
use Rattle.std.specs.List.{All}
use Rattle.uniform_assign.proofs.takers.no_takers.Given as goal

abbrev pub invariant-loop : goal.invariant-loop
invariant-loop l = (length l.all.items ≡ l.counter) × All (λ (takers : Vec ℕ). takers.items ≡ []) l.all.items
