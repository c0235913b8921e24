-- What waits beside a timer for the end of its silence.
use Rattle.std.specs.Prelude.{◌≡◌, ◌⊎◌, ℕ, Option, IsSomeAnd}
use Rattle.tokio.specs.Timers.{sleep_source}
use Rattle.coord_server.specs.declared.silence.Silence.{Silence}

-- a source of the reader or the writer, or that of the timer, where there is one
abbrev pub LimitedNeeds : {R : Type 0} → (ℕ → Type 0) → Option (Silence R) → ℕ → Type 0
LimitedNeeds needs silence source = needs source ⊎ IsSomeAnd silence (λ s. source ≡ sleep_source s.sleep)
