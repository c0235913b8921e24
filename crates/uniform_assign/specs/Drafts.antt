-- What a draft of owners shows.
use Rattle.std.specs.Prelude.{◌≡◌, ◌==◌, ℕ, ◌<◌, ◌≤◌, Bool, false, List, [], ◌∷◌, length, Option, Some, None, slice_get, slice_index, count_by}
use Rattle.std.specs.Option.{option_and_then, option_map_or}
use Rattle.std.specs.FinMap as finite
use Rattle.group_types.specs.declared.partition.Partition.{Partition}
use Rattle.group_types.specs.Text.{Text}
use Rattle.group_types.specs.Topics.{Topics}
use Rattle.group_types.specs.Assignors.{Subscriber}
use Rattle.group_types.specs.Owners.{Spread}
use Rattle.group_types.specs.Uniform.{AreFilled, AreMoves, IsLevel, in_partition_order}
use Rattle.uniform_assign.specs.declared.board.Board.{Board}
use Rattle.uniform_assign.specs.declared.draft.Draft.{Draft}
use Rattle.uniform_assign.specs.Boards.{members_on}

-- the spread with the partition given to the member, if there is one
abbrev pub given : Spread → Partition → Option Subscriber → Spread
given spread p None = spread
given spread p (Some m) = finite.insert spread p m.id

-- the spread in which each partition of a list belongs to the member at the owner's place
abbrev pub drawn : List (Text × Partition) → List Subscriber → List (Option ℕ) → Spread
drawn [] subs owners = finite.empty
drawn (x ∷ xs) subs [] = finite.empty
drawn (x ∷ xs) subs (o ∷ os) = given (drawn xs subs os) x.1 (option_and_then (slice_get subs) o)

-- the spread of owners in partition order
abbrev pub drawn_on : Board → List (Option ℕ) → Spread
drawn_on board owners = drawn (in_partition_order board.view.now) (members_on board) owners

-- whether the owner is the member at a place
abbrev pub is_owner : ℕ → Option ℕ → Bool
is_owner m o = option_map_or (λ n. n == m) o false

-- the counts are those of the owners, each of whom has one
pub record AreCounts (owners : List (Option ℕ)) (counts : List ℕ) : Type 0 where
  pub within : (k m : ℕ) → slice_get owners k ≡ Some (Some m) → m < length counts
  pub counted : (m : ℕ) → m < length counts → slice_index counts m ≡ count_by (is_owner m) owners

-- the draft has an owner for each partition of the board, or none, and a count for each member
pub record IsDraft (board : Board) (draft : Draft) : Type 0 where
  pub as_many_owners : length draft.owners.items ≡ length board.places.items
  pub as_many_counts : length draft.counts.items ≡ length (members_on board)
  pub counts : AreCounts draft.owners.items draft.counts.items

-- of the takers, the one whose count is the least, and of several such the first
pub record IsLeast (counts takers : List ℕ) (m : ℕ) : Type 0 where
  pub place : ℕ
  pub is_there : slice_get takers place ≡ Some m
  pub least : (k t : ℕ) → slice_get takers k ≡ Some t → slice_index counts m ≤ slice_index counts t
  pub first : (k t : ℕ) → k < place → slice_get takers k ≡ Some t → slice_index counts m < slice_index counts t

-- a levelling: moves from one spread to another, in which no partition can move
pub record IsLevelled (view : Topics) (subs : List Subscriber) (old new : Spread) : Type 0 where
  pub steps : List Spread
  pub are_moves : AreMoves view subs old steps new
  pub is_level : IsLevel view subs new

-- the partitions without an owner are filled, and then the members are levelled
pub record IsFilledAndLevelled (view : Topics) (subs : List Subscriber) (old new : Spread) : Type 0 where
  pub filled : Spread
  pub are_filled : AreFilled subs old (in_partition_order view) filled
  pub levelled : IsLevelled view subs filled new

-- each of the first n partitions has an owner, which owns no other
abbrev pub IsSingleTo : Draft → ℕ → Type 0
IsSingleTo draft n = (k : ℕ) → k < n
    → (m : ℕ) × (slice_get draft.owners.items k ≡ Some (Some m)) × (slice_index draft.counts.items m ≤ 1)

-- each partition
abbrev pub IsSingle : Draft → Type 0
IsSingle draft = IsSingleTo draft (length draft.owners.items)
