-- The spelling of a place in a log: what the log has come to there, but for the coordinator (ours).
use Rattle.std.specs.Prelude.{ℕ, ℤ, pos, List, [], ◌∷◌, FitsSigned}
use Rattle.std.specs.Int.{w32, w64}
use Rattle.flex_wire.specs.Spelling.{int16, int32, int64}
use Rattle.kip_msgs.specs.Spelling.{fields}
use Rattle.replica_snapshots.specs.Spelling.{number64, FitsNumber}

-- the version in which places are spelled
abbrev pub PLACE_VERSION : ℤ
PLACE_VERSION = pos 0

-- a place: how many entries were applied, the number of the last leadership that began, and the greatest moment
pub record PlaceValue : Type 0 where
  pub applied : ℕ
  pub leadership : ℕ
  pub moment : ℕ

-- A place.
unfoldable pub place_fields : PlaceValue → List ℕ
place_fields p = fields (
    int16 PLACE_VERSION
    ∷ number64 p.applied
    ∷ int32 (pos p.leadership)
    ∷ int64 (pos p.moment)
    ∷ [])

pub record FitsPlace (p : PlaceValue) : Type 0 where
  pub applied : FitsNumber p.applied
  pub leadership : FitsSigned w32 (pos p.leadership)
  pub moment : FitsSigned w64 (pos p.moment)
