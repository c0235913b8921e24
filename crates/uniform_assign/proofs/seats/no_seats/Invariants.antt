use Rattle.std.proofs.Common.{◌≡◌, length, []}
use Rattle.std.specs.List.{All}
use Rattle.uniform_assign.specs.Seats.{Seated}
use Rattle.uniform_assign.proofs.seats.no_seats.Given as goal

abbrev pub invariant-loop : goal.invariant-loop
invariant-loop l = (length l.seats.items ≡ l.counter) × All (λ (list : Seated). list.items ≡ []) l.seats.items
