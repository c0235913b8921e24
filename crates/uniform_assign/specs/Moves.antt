-- The move that follows, as it is looked for place by place.
use Rattle.std.specs.Prelude.{◌≡◌, ◌⊎◌, ℕ, ◌+◌, ◌-◌, ◌<◌, ◌≤◌, List, Option, Some, slice_get, slice_index, slice_set, MatchOption}
use Rattle.std.specs.Global.{Vec}
use Rattle.group_types.specs.Uniform.{CanMove}
use Rattle.uniform_assign.specs.declared.board.Board.{Board}
use Rattle.uniform_assign.specs.declared.board.Place.{Place}
use Rattle.uniform_assign.specs.declared.draft.Draft.{Draft}
use Rattle.uniform_assign.specs.declared.level.Move.{Move}
use Rattle.uniform_assign.specs.Drafts.{IsLeast, drawn_on}
use Rattle.uniform_assign.specs.Boards.{members_on}

-- the limit is at most one more than what any taker owns
abbrev pub IsGiversLimit : Board → List ℕ → ℕ → Type 0
IsGiversLimit board counts limit =
    (c k m : ℕ) (takers : Vec ℕ) → slice_get board.takers.items c ≡ Some takers → slice_get takers.items k ≡ Some m → limit ≤ slice_index counts m + 1

-- the member at a place can give the partition at a place away
abbrev pub CanGive : Board → Draft → ℕ → ℕ → Type 0
CanGive board draft from place = CanMove board.view.now (members_on board) (drawn_on board draft.owners.items) from place

-- the owner gives the partition to the taker with the least count, which is at least two less than its own
pub record IsMove (board : Board) (draft : Draft) (m : Move) : Type 0 where
  pub owns : slice_get draft.owners.items m.partition ≡ Some (Some m.from)
  pub place : Place
  pub is_place : slice_get board.places.items m.partition ≡ Some place
  pub class : ℕ
  pub is_class : slice_get board.classes.items place.topic ≡ Some class
  pub takers : Vec ℕ
  pub are_takers : slice_get board.takers.items class ≡ Some takers
  pub is_least : IsLeast draft.counts.items takers.items m.to
  pub fewer : slice_index draft.counts.items m.to + 1 < slice_index draft.counts.items m.from

-- the move of the partition at a place, if it can move
abbrev pub IsMoveOf : Board → Draft → ℕ → Option Move → Type 0
IsMoveOf board draft at o = MatchOption o ((from : ℕ) → ¬ CanGive board draft from at) (λ m. (m.partition ≡ at) × IsMove board draft m)

-- the first of the moves of the first n partitions: from the one that owns the most, and of several such from the first
pub record IsFirst (board : Board) (draft : Draft) (n : ℕ) (m : Move) : Type 0 where
  pub is_move : IsMove board draft m
  pub within : m.partition < n
  pub most : (i k : ℕ) → k < n → CanGive board draft i k → slice_index draft.counts.items i ≤ slice_index draft.counts.items m.from
  pub first_member : (i k : ℕ) → k < n → CanGive board draft i k → i < m.from → slice_index draft.counts.items i < slice_index draft.counts.items m.from
  pub first_partition : (k : ℕ) → k < n → CanGive board draft m.from k → m.partition ≤ k

-- that move, if one of the first n partitions can move
abbrev pub IsNext : Board → Draft → ℕ → Option Move → Type 0
IsNext board draft n o = MatchOption o ((from k : ℕ) → k < n → ¬ CanGive board draft from k) (IsFirst board draft n)

-- of the partitions with a property, the first that the member can give away moves
abbrev pub IsFirstAmong : Board → Draft → ℕ → (ℕ → Type 0) → Option Move → Type 0
IsFirstAmong board draft from P o =
    MatchOption o ((k : ℕ) → P k → ¬ CanGive board draft from k)
    (λ m. IsMove board draft m × (m.from ≡ from) × ((k : ℕ) → P k → CanGive board draft from k → m.partition ≤ k))

-- the first that the member can give away moves
abbrev pub IsFirstOf : Board → Draft → ℕ → Option Move → Type 0
IsFirstOf board draft from = IsFirstAmong board draft from (λ k. Unit {0})

-- the earlier of two partitions moves
abbrev pub IsEarlier : Option Move → Option Move → Option Move → Type 0
IsEarlier one other o =
    MatchOption one (o ≡ other) (λ m. MatchOption other (o ≡ one)
    (λ n. ((o ≡ other) × (n.partition < m.partition)) ⊎ ((o ≡ one) × (m.partition ≤ n.partition))))

-- the counts with one partition moved
abbrev pub one_moved : List ℕ → ℕ → ℕ → List ℕ
one_moved counts from to =
    let less = slice_set counts from (slice_index counts from - 1) in slice_set less to (slice_index less to + 1)
