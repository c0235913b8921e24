-- Worlds to which acts lead.
use Rattle.std.specs.Prelude.{ℕ, List}
use Rattle.member_core.specs.Settings.{Settings}
use Rattle.world_sim.specs.World.{World, new_world}
use Rattle.world_sim.specs.Acts.{Act, Outcome, Run}

-- some list of acts leads to it from clients that haven't asked for anything
pub record IsReached (w : World) : Type 0 where
  pub salt : ℕ
  pub clients : List Settings
  pub acts : List Act
  pub outcomes : List Outcome
  pub run : Run (new_world salt clients) acts outcomes w
