-- The table of CRC-32C has what eight bits of each low byte leave.
use Rattle.std.proofs.Common.{◌≡◌, ℕ, zero, suc, ◌+◌, ◌<◌, length, Bool, true, ◌&&◌, nat_eq, List, [], ◌∷◌, get_or, refl, arith}
use Rattle.std.proofs.lemmas.Grind.{common_steps}
use Rattle.topic_logs.specs.Checksum.{entry}
use Rattle.topic_logs.specs.declared.checksum.TheConstants.{TABLE}

-- the list has the entries from `low` on
abbrev has_entries : ℕ → List ℕ → Bool
has_entries low [] = true
has_entries low (x ∷ xs) = nat_eq x (entry low) && has_entries (low + 1) xs

get_or-has_entries : (low : ℕ) (xs : List ℕ) (k : ℕ) → has_entries low xs ≡ true → k < length xs → get_or xs k 0 ≡ entry (low + k)
get_or-has_entries low [] k has in_list = grind (arith, common_steps)
get_or-has_entries low (x ∷ xs) zero has in_list = grind (arith, common_steps)
get_or-has_entries low (x ∷ xs) (suc k) has in_list = grind (arith, common_steps, get_or-has_entries (low + 1) xs k)

has_entries-TABLE : has_entries 0 TABLE ≡ true
unfolding entry
has_entries-TABLE = refl

pub table_entry : (table : List ℕ) (low : ℕ) → table ≡ TABLE → low < 256 → get_or table low 0 ≡ entry low
table_entry table low is below =
    rw is (grind (arith, get_or-has_entries 0 TABLE low has_entries-TABLE))
