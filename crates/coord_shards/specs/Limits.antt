-- The limits of shards, each as a literal, which all definitions cite. The constants of the code are these by a law
-- (`constants_are_the_limits`). All of them are ours.
use Rattle.std.specs.Prelude.{◌≡◌, ℕ}
use Rattle.coord_shards.specs.declared.limits.TheConstants as constants

-- the most shards
abbrev pub MOST_SHARDS : ℕ
MOST_SHARDS = 64

-- the most seats that are given out
abbrev pub MOST_SEATS : ℕ
MOST_SEATS = 256

-- the most entries that a journal may keep
abbrev pub MOST_KEPT : ℕ
MOST_KEPT = 65536

-- the constants of the code have these values
pub record ConstantsAreTheLimits : Type 0 where
  pub shards : constants.MOST_SHARDS ≡ MOST_SHARDS
  pub seats : constants.MOST_SEATS ≡ MOST_SEATS
  pub kept : constants.MOST_KEPT ≡ MOST_KEPT
