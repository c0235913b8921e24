-- Where the members are among the takers of the classes.
use Rattle.std.specs.Prelude.{◌≡◌, ◌⊎◌, ℕ, ◌<◌, List, length, Some, slice_get}
use Rattle.std.specs.Global.{Vec}
use Rattle.uniform_assign.specs.declared.board.Board.{Board}
use Rattle.uniform_assign.specs.declared.seats.Seat.{Seat}
use Rattle.uniform_assign.specs.Boards.{members_on}

-- the places of a member
abbrev pub Seated : Type 0
Seated = Vec Seat

-- the member is the taker at the place
abbrev pub IsSeatOf : Board → ℕ → Seat → Type 0
IsSeatOf board m seat = (takers : Vec ℕ) × (slice_get board.takers.items seat.class ≡ Some takers) × (slice_get takers.items seat.place ≡ Some m)

-- they are all the places of the member
pub record AreSeatsOf (board : Board) (m : ℕ) (seats : List Seat) : Type 0 where
  pub sound : (i : ℕ) (seat : Seat) → slice_get seats i ≡ Some seat → IsSeatOf board m seat
  pub all : (seat : Seat) → IsSeatOf board m seat → (i : ℕ) × (slice_get seats i ≡ Some seat)

-- the place is listed of the member
abbrev pub IsSeatIn : List Seated → ℕ → Seat → Type 0
IsSeatIn lists m seat = (list : Seated) × (i : ℕ) × (slice_get lists m ≡ Some list) × (slice_get list.items i ≡ Some seat)

-- for each member its places in the first n classes
pub record AreSeats (board : Board) (n : ℕ) (lists : List Seated) : Type 0 where
  pub as_many : length lists ≡ length (members_on board)
  pub sound : (m : ℕ) (seat : Seat) → IsSeatIn lists m seat → IsSeatOf board m seat
  pub all : (m : ℕ) (seat : Seat) → seat.class < n → IsSeatOf board m seat → IsSeatIn lists m seat

-- the first n places of a class are added
pub record AddsSeats (takers : List ℕ) (class n : ℕ) (old new : List Seated) : Type 0 where
  pub as_many : length new ≡ length old
  pub kept : (m : ℕ) (seat : Seat) → IsSeatIn old m seat → IsSeatIn new m seat
  pub added : (k m : ℕ) → k < n → slice_get takers k ≡ Some m → IsSeatIn new m (record { class = class; place = k })
  pub others : (m : ℕ) (seat : Seat) → IsSeatIn new m seat → IsSeatIn old m seat ⊎ ((seat.class ≡ class) × (slice_get takers seat.place ≡ Some m))
