-- The lines of an input. The forms are this program's own.
use Rattle.std.specs.Prelude.{ℕ, Bool, ◌==◌, List, [], ◌∷◌, ◌++◌, length, if◌then◌else◌}
use Rattle.std.specs.List.{slice_split}

abbrev pub is_line_feed : ℕ → Bool
is_line_feed byte = byte == 10

-- a line with its line feed
abbrev pub fed : List ℕ → List ℕ
fed line = line ++ 10 ∷ []

-- what stands after the last line feed is a line only where it has a byte
abbrev pub ended : List (List ℕ) → List (List ℕ)
ended [] = []
ended (last ∷ []) = if length last == 0 then [] else last ∷ []
ended (line ∷ next ∷ more) = line ∷ ended (next ∷ more)

-- a line ends at a line feed, which the last may lack
abbrev pub lines_of : List ℕ → List (List ℕ)
lines_of input = ended (slice_split is_line_feed input)
