-- What the code's player is as a play.
use Rattle.std.specs.Prelude.{Bool, true, false, map, All}
use Rattle.member_core.specs.Views.{settings_value, HasShortTexts}
use Rattle.world_sim.specs.World.{World, new_world}
use Rattle.scenario_lines.specs.declared.player.Player.TheInside.{Inside}
use Rattle.scenario_lines.specs.declared.player.Stage.{Stage}
use Rattle.scenario_lines.specs.declared.player.Stage.TheVariants.{Before, Begun}
use Rattle.scenario_lines.specs.Plays.{Play}

-- before the first act nothing has happened
abbrev pub world_at : Stage → World
world_at (Before clients) = new_world 0 (map settings_value clients.items)
world_at (Begun world) = world

abbrev pub has_begun : Stage → Bool
has_begun (Before clients) = false
has_begun (Begun world) = true

-- the settings can be said in requests
abbrev pub IsShortStage : Stage → Type 0
IsShortStage (Before clients) = All (λ settings. HasShortTexts (settings_value settings)) clients.items
IsShortStage (Begun world) = Unit {0}

abbrev pub play_of : Inside → Play
play_of p = record { cast = p.cast; world = world_at p.stage; has_begun = has_begun p.stage }

abbrev pub IsPlayer : Inside → Type 0
IsPlayer p = IsShortStage p.stage
