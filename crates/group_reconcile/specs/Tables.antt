-- The cells of the partitions that are held: a table a topic, indexed by partition (ours).
use Rattle.std.specs.Prelude.{ℕ, suc, ◌≤◌, ◌≡◌, ℤ, pos, negsuc, not, List, [], ◌∷◌, map, length, Option, Some, None, unwrap_or, refl, slice_index_or, nat_lt, if◌then◌else◌, slice_set}
use Rattle.std.specs.declared.alloc.Global.{Global}
use Rattle.std.specs.declared.vec.Vec.{Vec}
use Rattle.std.specs.Ordering.{eq_by_cmp}
use Rattle.std.specs.Coded.{Coded, code_by, coded×, coded_ℕ, coded_list}
use Rattle.std.specs.FinMap as finite
use Rattle.group_types.specs.declared.partition.Partition.{Partition}
use Rattle.group_types.specs.Owners.{IsIndex}
use Rattle.group_types.specs.Text.{Text, text_cmp}
use Rattle.group_types.specs.Partition.{partition_cmp, partition_code}
use Rattle.group_reconcile.specs.declared.cell.Cell.{Cell}

-- the cells of the partitions that are held
abbrev pub Cells : Type 0
Cells = finite.FinMap partition_cmp Cell

-- for each topic that has a table, how many indexes have a place in it
abbrev pub Sizes : Type 0
Sizes = finite.FinMap text_cmp ℕ

pub record TableState : Type 0 where
  pub cells : Cells
  pub sizes : Sizes

abbrev cell_code : Coded Cell
cell_code = code_by (ℕ × ℕ) (coded× coded_ℕ coded_ℕ) (λ c. (c.holder, c.since)) (λ p. record { holder = p.0; since = p.1 }) (λ _. refl)

abbrev pub table_code : Coded TableState
table_code =
    code_by (Cells × Sizes) (coded× (finite.code partition_code cell_code) (finite.code (coded_list coded_ℕ) coded_ℕ))
    (λ t. (t.cells, t.sizes)) (λ p. record { cells = p.0; sizes = p.1 }) (λ _. refl)

-- ---- what the tables have

abbrev pub TopicCells : Type 0
TopicCells = Text × Vec (Option Cell) Global

-- the cell at an index: none where the index is below 0 or past the end
abbrev pub cell_at : List (Option Cell) → ℤ → Option Cell
cell_at cells (pos n) = slice_index_or cells n None
cell_at cells (negsuc n) = None

-- a map with the cells of a topic, from an index on
abbrev pub with_cells : Text → ℕ → List (Option Cell) → Cells → Cells
with_cells topic i [] m = m
with_cells topic i (None ∷ cells) m = with_cells topic (suc i) cells m
with_cells topic i (Some c ∷ cells) m = finite.insert (with_cells topic (suc i) cells m) (record { topic = topic; index = pos i }) c

-- the cells of all tables: of two tables of one topic the first counts, as a look-up finds it
abbrev pub cells_in : List TopicCells → Cells
cells_in [] = finite.empty
cells_in (t ∷ ts) = with_cells t.0 0 t.1.items (finite.retain_keys (cells_in ts) (λ p. not (eq_by_cmp text_cmp p.topic t.0)))

abbrev pub sizes_in : List TopicCells → Sizes
sizes_in ts = finite.from_entries (map (λ t. (t.0, length t.1.items)) ts)

-- ---- room

-- how many indexes of a topic have a place
abbrev pub size_of : Sizes → Text → ℕ
size_of sizes topic = unwrap_or (finite.get sizes topic) 0

-- the partition has a place for its cell
abbrev pub HasRoom : Sizes → Partition → Type 0
HasRoom sizes p = IsIndex p.index (size_of sizes p.topic)

-- no topic has fewer places than before
abbrev pub KeepsRoom : Sizes → Sizes → Type 0
KeepsRoom old new = (topic : Text) → size_of old topic ≤ size_of new topic

-- ---- writes to one table

-- the new cells are the old ones, with the cell at the index where there is such a place
abbrev pub SetsCell : List (Option Cell) → List (Option Cell) → ℤ → Option Cell → Type 0
SetsCell old new (pos i) cell = new ≡ (if nat_lt i (length old) then slice_set old i cell else old)
SetsCell old new (negsuc i) cell = new ≡ old

-- some blanks stand behind the old cells
abbrev pub AddsBlanks : List (Option Cell) → List (Option Cell) → Type 0
AddsBlanks old new = (length old ≤ length new) × ((j : ℤ) → cell_at new j ≡ cell_at old j)
