-- Counts in order, so that the least is at hand.
use Rattle.std.specs.Prelude.{◌≡◌, ◌⊎◌, ℕ, ◌+◌, ◌/◌, ◌<◌, ◌≤◌, List, [], length, drop, map, Option, Some, slice_get, slice_index, slice_set, MatchOption}
use Rattle.std.specs.Global.{Vec}
use Rattle.uniform_assign.specs.declared.board.Board.{Board}
use Rattle.uniform_assign.specs.declared.draft.Draft.{Draft}
use Rattle.uniform_assign.specs.declared.count_set.Rank.{Rank}

-- the first rank has the lesser count, or as much and no later place
abbrev pub IsBefore : Rank → Rank → Type 0
IsBefore a b = (a.count < b.count) ⊎ ((a.count ≡ b.count) × (a.place ≤ b.place))

-- of two ranks the one that comes first
abbrev pub IsFirstOfTwo : Rank → Rank → Rank → Type 0
IsFirstOfTwo a b r = ((r ≡ a) × IsBefore a b) ⊎ ((r ≡ b) × IsBefore b a)

-- the rank at a node is the first of those at the two nodes below it
pub record IsMatch (nodes : List Rank) (i : ℕ) : Type 0 where
  pub left : Rank
  pub is_left : slice_get nodes (i + i) ≡ Some left
  pub right : Rank
  pub is_right : slice_get nodes (i + i + 1) ≡ Some right
  pub first : Rank
  pub is_first : slice_get nodes i ≡ Some first
  pub comes_first : IsFirstOfTwo left right first

-- the second half of the nodes has the counts with their places
pub record AreRanks (counts : List ℕ) (nodes : List Rank) : Type 0 where
  pub as_many : length nodes ≡ length counts + length counts
  pub ranks : (k n : ℕ) → slice_get counts k ≡ Some n → slice_get nodes (length counts + k) ≡ Some (record { count = n; place = k })

-- the counts that the second half of the nodes has
abbrev pub counts_in : List Rank → List ℕ
counts_in nodes = map (λ r. r.count) (drop (length nodes / 2) nodes)

-- a tree whose every node has the first of the counts below it
pub record IsTree (counts : List ℕ) (nodes : List Rank) : Type 0 where
  pub are_ranks : AreRanks counts nodes
  pub matches : (i : ℕ) → 0 < i → i < length counts → IsMatch nodes i

-- the rank at a node was written
pub record IsPlayed (old : List Rank) (i : ℕ) (new : List Rank) : Type 0 where
  pub left : Rank
  pub is_left : slice_get old (i + i) ≡ Some left
  pub right : Rank
  pub is_right : slice_get old (i + i + 1) ≡ Some right
  pub first : Rank
  pub comes_first : IsFirstOfTwo left right first
  pub is_new : new ≡ slice_set old i first

-- the least count is at a place, and those before it are greater
pub record IsLeastAt (counts : List ℕ) (k : ℕ) : Type 0 where
  pub within : k < length counts
  pub least : (j : ℕ) → j < length counts → slice_index counts k ≤ slice_index counts j
  pub first : (j : ℕ) → j < k → slice_index counts k < slice_index counts j

-- at some place, if there is any
abbrev pub IsLeastPlace : List ℕ → Option ℕ → Type 0
IsLeastPlace counts o = MatchOption o (counts ≡ []) (IsLeastAt counts)

-- the rank of that count
pub record IsFirstRank (counts : List ℕ) (rank : Rank) : Type 0 where
  pub least : IsLeastAt counts rank.place
  pub count : slice_index counts rank.place ≡ rank.count

-- it is told, if there is any
abbrev pub IsFirstRankOf : List ℕ → Option Rank → Type 0
IsFirstRankOf counts o = MatchOption o (counts ≡ []) (IsFirstRank counts)

-- the takers' counts
abbrev pub counts_of : List ℕ → List ℕ → List ℕ
counts_of counts takers = map (slice_index counts) takers

-- the set is of the class's takers
abbrev pub IsSetOf : Board → Draft → ℕ → List ℕ → Type 0
IsSetOf board draft class set = (takers : Vec ℕ) → slice_get board.takers.items class ≡ Some takers → set ≡ counts_of draft.counts.items takers.items

-- each class's set is of its takers
pub record AreCountSets (board : Board) (counts : List ℕ) (sets : List (List ℕ)) : Type 0 where
  pub as_many : length sets ≡ length board.takers.items
  pub each : (c : ℕ) (takers : Vec ℕ) (set : List ℕ) → slice_get board.takers.items c ≡ Some takers → slice_get sets c ≡ Some set → set ≡ counts_of counts takers.items
