-- The lines that `coord frame` reads. Their form is this program's own.
use Rattle.std.specs.Prelude.{◌≡◌, ℕ, List, [], ◌∷◌, Ok}
use Rattle.hex.specs.Hex.{decode_of}
use Rattle.scenario_text.specs.Words.{IsLine, words_of}

-- the line is one word, which spells bytes in hex
pub record IsFrameLine (input bytes : List ℕ) : Type 0 where
  pub is_line : IsLine input
  pub word : List ℕ
  pub alone : words_of input ≡ word ∷ []
  pub spelled : decode_of word ≡ Ok bytes

-- the line spells bytes
abbrev pub SpellsBytes : List ℕ → Type 0
SpellsBytes input = (bytes : List ℕ) × IsFrameLine input bytes
