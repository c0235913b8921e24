-- What the world's definitions come to, beside Exclusivity.
use Rattle.std.specs.Prelude.{◌≡◌, List}
use Rattle.world_sim.specs.World.{World}
use Rattle.world_sim.specs.Acts.{Act, Outcome, ActStep, Run}

-- an act has one outcome in a world, and leaves one world
abbrev pub OneOutcomeAnAct : Type 0
OneOutcomeAnAct =
    (w : World) (act : Act) (a b : Outcome) (new other : World)
    → ActStep w act a new → ActStep w act b other → (a ≡ b) × (new ≡ other)

-- and so does a list of acts
abbrev pub OneRunOfActs : Type 0
OneRunOfActs =
    (acts : List Act) (w : World) (a b : List Outcome) (new other : World)
    → Run w acts a new → Run w acts b other → (a ≡ b) × (new ≡ other)
