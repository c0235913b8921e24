-- The numbers that words spell in decimal. The forms are this program's own.
use Rattle.std.specs.Prelude.{◌≡◌, ◌⊎◌, ℕ, ℤ, pos, neg_ℤ, ◌<◌, ◌≤◌, ◌^◌, List, ◌++◌, codes, decimal}

-- the word spells a number below a limit
pub record SpellsBelow (limit : ℕ) (word : List ℕ) (number : ℕ) : Type 0 where
  pub below : number < limit
  pub spelled : word ≡ decimal number

-- a number of milliseconds, or of a message
abbrev pub SpellsNumber : List ℕ → ℕ → Type 0
SpellsNumber = SpellsBelow (2 ^ 64)

-- an INT32 that isn't negative
abbrev pub SpellsCount : List ℕ → ℕ → Type 0
SpellsCount = SpellsBelow (2 ^ 31)

-- an INT64: a number, or a minus and a number
abbrev pub SpellsOffset : List ℕ → ℤ → Type 0
SpellsOffset word offset =
    ((number : ℕ) × SpellsBelow (2 ^ 63) word number × (offset ≡ pos number))
    ⊎ ((number : ℕ) × (number ≤ 2 ^ 63) × (word ≡ codes "-" ++ decimal number) × (offset ≡ neg_ℤ (pos number)))
