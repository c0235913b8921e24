-- What contracts see of a shard.
use Rattle.std.specs.Prelude.{ℕ, List, ◌==◌, ◌+◌, [], ◌∷◌, ◌++◌, if◌then◌else◌, slice_index, slice_set}
use Rattle.coord_node.specs.Coordinator.{Coordinator}
use Rattle.coord_shards.specs.declared.shard.JournalEntry.{JournalEntry}

-- its number, the number of shards, the salt of its ids, how many entries its journal may keep, the present state of its node,
-- the entries that are kept, and how many entries each seat made
pub record ShardState : Type 0 where
  pub number : ℕ
  pub shards : ℕ
  pub salt : ℕ
  pub cap : ℕ
  pub present : Coordinator
  pub kept : List JournalEntry
  pub counts : List ℕ

-- what is kept once one more comes behind what is kept
abbrev pub kept_with : {X : Type 0} → ℕ → List X → X → List X
kept_with cap kept x = if cap == 0 then kept else kept ++ x ∷ []

-- one more at a place, and the same at each other
abbrev pub one_more : List ℕ → ℕ → List ℕ
one_more counts k = slice_set counts k (slice_index counts k + 1)
