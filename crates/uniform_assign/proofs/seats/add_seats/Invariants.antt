use Rattle.uniform_assign.specs.Seats.{AddsSeats}
use Rattle.uniform_assign.proofs.seats.add_seats.Given as goal

abbrev pub invariant-loop-place : goal.invariant-loop-place
invariant-loop-place l = AddsSeats l.takers l.class l.place l.initial.seats.items l.seats.items
