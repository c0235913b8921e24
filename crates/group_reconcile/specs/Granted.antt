-- What the cells and the member table say together (ours).
use Rattle.std.specs.Prelude.{◌≡◌, ℕ, Bool, false, ◌==◌, map}
use Rattle.std.specs.Option.{option_map_or}
use Rattle.std.specs.FinMap as finite
use Rattle.group_types.specs.declared.partition.Partition.{Partition}
use Rattle.group_types.specs.Sets.{has}
use Rattle.group_reconcile.specs.declared.cell.Cell.{Cell}
use Rattle.group_reconcile.specs.Holders.{Held, Holders}
use Rattle.group_reconcile.specs.Members.{MemberTable, id_of, parts_of}
use Rattle.group_reconcile.specs.Tables.{Cells}

-- who holds a partition that has this cell
abbrev pub held_by : MemberTable → Cell → Held
held_by ms c = record { member = id_of ms c.holder; since = c.since }

-- who holds which partition
abbrev pub holders_of : MemberTable → Cells → Holders
holders_of ms cells = finite.from_entries (map (λ e. (e.0, held_by ms e.1)) (finite.entries cells))

-- whether the partition's cell has the number
abbrev pub is_holder : Cells → Partition → ℕ → Bool
is_holder cells p k = option_map_or (λ c. c.holder == k) (finite.get cells p) false

-- each member's own set is what the cells say that it holds
abbrev pub AreConsistent : MemberTable → Cells → Type 0
AreConsistent ms cells = (k : ℕ) (p : Partition) → has (parts_of ms k) p ≡ is_holder cells p k
