-- What a round of the expiry worker comes to.
use Rattle.std.specs.Prelude.{◌≡◌, ℕ, ◌+◌, ◌<◌, ◌≤◌}

-- The present moment is asked for. Where at most 5 s have passed since the last round, the time of the shards goes on to it; after
-- a pause it stands.
pub record IsRound {D : Type 0} (hands ticks : D → ℕ → D → Type 0) (old : D) (last : ℕ) (new : D) (moment : ℕ) : Type 0 where
  pub between : D
  pub asked : hands old moment between
  pub ticked : moment ≤ last + 5000 → ticks between moment new
  pub stands : last + 5000 < moment → new ≡ between
