-- What may stand at the front of bytes that are no entry, and behind an entry (ours).
use Rattle.std.specs.Prelude.{◌≡◌, ◌≢◌, ℕ, ℤ, List, [], ◌++◌, None, FitsSigned}
use Rattle.std.specs.Int.{w16}
use Rattle.flex_wire.specs.Spelling.{int16}
use Rattle.replica_entries.specs.Kinds.{VERSION, kind_with}
use Rattle.replica_entries.specs.declared.kind.Kind.TheVariants.{Frame}
use Rattle.replica_entries.specs.Values.{EntryValue, kind_of}
use Rattle.replica_entries.specs.Spelling.{FitsEntry, entry_fields}

-- They begin with another version.
abbrev pub HasUnknownVersion : List ℕ → Type 0
HasUnknownVersion bytes =
    (version : ℤ) × (rest : List ℕ) × FitsSigned w16 version × (version ≢ VERSION) × (bytes ≡ int16 version ++ rest)

-- They begin with the version, and a number that no kind has.
abbrev pub HasUnknownKind : List ℕ → Type 0
HasUnknownKind bytes =
    (kind : ℤ) × (rest : List ℕ) × FitsSigned w16 kind × (kind_with kind ≡ None) × (bytes ≡ int16 VERSION ++ (int16 kind ++ rest))

-- They are an entry with at least one byte more; not a frame, whose body is all that is left.
abbrev pub HasLeftOver : List ℕ → Type 0
HasLeftOver bytes =
    (v : EntryValue) × (rest : List ℕ) × FitsEntry v × (kind_of v.content ≢ Frame) × (rest ≢ []) × (bytes ≡ entry_fields v ++ rest)
