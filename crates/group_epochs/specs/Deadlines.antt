-- The deadlines of a group's members.
use Rattle.std.specs.Prelude.{◌≡◌, ℕ, ◌≤◌, min, List, [], ◌∷◌, Some, String, unwrap_or}
use Rattle.std.specs.FinMap as finite
use Rattle.group_types.specs.Text.{Text}
use Rattle.group_types.specs.Group.{Record, Records}
use Rattle.group_epochs.specs.Table.{NoneIsDueBefore}
use Rattle.group_epochs.specs.declared.deadlines.Searched.{Searched}
use Rattle.group_epochs.specs.declared.entry.Entry.{Entry}

-- the first of a member's deadlines
abbrev pub first_deadline : Record → ℕ
first_deadline r = min r.session_deadline (unwrap_or r.release_deadline r.session_deadline)

-- no member's deadline comes before the moment
abbrev pub IsNoLater : ℕ → Records → Type 0
IsNoLater moment records = (m : Text) (r : Record) → finite.get records m ≡ Some r → moment ≤ first_deadline r

-- the first of a moment and of the deadlines of all members
abbrev pub first_of_all : {Y : Type 0} → ℕ → List (String Y × Entry) → ℕ
first_of_all moment [] = moment
first_of_all moment (row ∷ rows) = first_of_all (min moment (first_deadline row.1.kept)) rows

-- at the moment of a search nobody is due before the rank that it came to
abbrev pub IsSearched : Searched → Records → Type 0
IsSearched searched records = NoneIsDueBefore records searched.clock searched.rank
