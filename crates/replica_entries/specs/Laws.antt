-- The laws between runs of bytes and entries.
use Rattle.std.specs.Prelude.{◌≡◌, ℕ, List}
use Rattle.replica_entries.specs.Values.{EntryValue}
use Rattle.replica_entries.specs.Spelling.{SpellsEntry}

-- A run of bytes is of at most one entry.
abbrev pub OneEntryARun : Type 0
OneEntryARun = (v w : EntryValue) (bytes : List ℕ) → SpellsEntry v bytes → SpellsEntry w bytes → v ≡ w

-- An entry has one run of bytes.
abbrev pub OneRunAnEntry : Type 0
OneRunAnEntry = (v : EntryValue) (one other : List ℕ) → SpellsEntry v one → SpellsEntry v other → one ≡ other
