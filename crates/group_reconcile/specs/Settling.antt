-- What settling a member does to the cells, partition by partition.
use Rattle.std.specs.Prelude.{◌≡◌, ◌&&◌, not, ℕ, Bool, true, Option, List, [], ◌∷◌, if◌then◌else◌}
use Rattle.std.specs.Option.{option_map_or}
use Rattle.std.specs.FinMap as finite
use Rattle.group_types.specs.declared.partition.Partition.{Partition}
use Rattle.group_types.specs.Sets.{has, with_one}
use Rattle.group_types.specs.Partition.{Partitions}
use Rattle.group_reconcile.specs.declared.cell.Cell.{Cell}
use Rattle.group_reconcile.specs.Members.{is_number}
use Rattle.group_reconcile.specs.Tables.{Cells}

-- the cells without those of the partitions
abbrev pub cells_without : Cells → List Partition → Cells
cells_without m [] = m
cells_without m (p ∷ ps) = cells_without (finite.remove m p) ps

-- the cells without those of the partitions that aren't among the next ones
abbrev pub cells_cleared : Cells → Partitions → List Partition → Cells
cells_cleared m next [] = m
cells_cleared m next (p ∷ ps) = cells_cleared (if has next p then m else finite.remove m p) next ps

abbrev pub put_where_free : Cells → Cell → Partition → Cells
put_where_free m c p = if finite.contains_key m p then m else finite.insert m p c

-- the cells with the cell for each of the partitions that has none
abbrev pub cells_put : Cells → Cell → List Partition → Cells
cells_put m c [] = m
cells_put m c (p ∷ ps) = cells_put (put_where_free m c p) c ps

-- whether the partition is free, or the number is that of its holder
abbrev pub may_take : Cells → Option ℕ → Partition → Bool
may_take cells number p = option_map_or (λ c. is_number number c.holder) (finite.get cells p) true

-- the set, with the partition where the member may take it
abbrev pub with_if_free : Cells → Option ℕ → Partitions → Partition → Partitions
with_if_free cells number next p = if may_take cells number p then with_one next p else next

-- the set, with those of the partitions that the member may take
abbrev pub taken_of : Cells → Option ℕ → Partitions → List Partition → Partitions
taken_of cells number next [] = next
taken_of cells number next (p ∷ ps) = taken_of cells number (with_if_free cells number next p) ps

-- the next set has the partitions of the target that the member may take
abbrev pub IsNext : Cells → Option ℕ → Partitions → Partitions → Type 0
IsNext cells number target next = (p : Partition) → has next p ≡ (has target p && may_take cells number p)

-- whether the partition isn't one of the target, and the member hasn't said that it gave it up
abbrev pub is_kept : Partitions → Option Partitions → Partition → Bool
is_kept target owned p = not (has target p) && option_map_or (λ set. has set p) owned true
