-- Whatever acts are done from a new world, each has its outcome.
use Rattle.std.proofs.Common.{List, [], ◌∷◌, refl}
use Rattle.std.specs.List.{AllByRecursion}
use Rattle.std.proofs.lemmas.List.Elements.{recursion_from_All}
use Rattle.world_sim.specs.World.{World, new_world}
use Rattle.world_sim.specs.Acts.{Act, Outcome, Run}
use Rattle.world_sim.specs.Existence.{ActsHaveAnOutcome, ActsLeaveLiveWorlds, IsLive, IsPossible, RunsOfActsExist}
use Rattle.world_sim.proofs.NewWorlds.{new_worlds_are_live}

module _ (have : ActsHaveAnOutcome) (leave : ActsLeaveLiveWorlds) where
  goes_on : (acts : List Act) (w : World) → IsLive w → AllByRecursion IsPossible acts → (outcomes : List Outcome) × (new : World) × Run w acts outcomes new
  goes_on [] w live possible = ([], w, refl)
  goes_on (act ∷ acts) w live possible =
      let (outcome, middle, step) = have w act live possible.0 in
      let (later, new, rest) = goes_on acts middle (leave w act outcome middle step live) possible.1 in
      (outcome ∷ later, new, (middle, step, rest))

pub runs_of_acts_exist : ActsHaveAnOutcome → ActsLeaveLiveWorlds → RunsOfActsExist
runs_of_acts_exist have leave salt clients acts said possible =
    goes_on have leave acts (new_world salt clients) (new_worlds_are_live salt clients said) (recursion_from_All IsPossible acts possible)
