-- What a writer holds after some of its bytes may have been refused.
use Rattle.std.specs.Prelude.{◌≡◌, ◌++◌, ℕ, List, Option}
use Rattle.std.specs.Io.KnownBytes.{Appends}

-- only more bytes came
pub record Grows (old new : Option (List ℕ)) : Type 0 where
  pub bytes : List ℕ
  pub appends : Appends old new bytes

-- the first of these bytes came
pub record WritesPart (old new : Option (List ℕ)) (bytes : List ℕ) : Type 0 where
  pub written : List ℕ
  pub left : List ℕ
  pub parts : bytes ≡ written ++ left
  pub appends : Appends old new written
