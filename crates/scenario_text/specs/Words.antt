-- The words of an input line. The forms are this program's own.
use Rattle.std.specs.Prelude.{◌≢◌, ℕ, ◌≤◌, Bool, ◌==◌, List, [], length, All, IsUtf8, codes}
use Rattle.std.specs.List.{slice_split}
use Rattle.group_types.specs.Limits.{LONGEST_STRING}

abbrev pub is_space : ℕ → Bool
is_space byte = byte == 32

-- one space parts each word from the next
abbrev pub words_of : List ℕ → List (List ℕ)
words_of line = slice_split is_space line

-- a line is text, and no word of it is empty
pub record IsLine (line : List ℕ) : Type 0 where
  pub text : IsUtf8 line
  pub words : All (λ word. word ≢ []) (words_of line)

-- the name of a topic, as other words may hold it beside commas and colons, and not the word for none
pub record IsName (word : List ℕ) : Type 0 where
  pub short : length word ≤ LONGEST_STRING
  pub plain : All (λ byte. (byte ≢ 44) × (byte ≢ 58)) word
  pub given : word ≢ codes "-"
