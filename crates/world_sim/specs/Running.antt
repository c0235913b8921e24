-- Lists of acts in the code.
use Rattle.std.specs.Prelude.{◌≡◌, List, [], ◌∷◌, Vec, Ok, Err, Result}
use Rattle.std.specs.declared.alloc.Global.{Global}
use Rattle.world_sim.specs.declared.shown.Shown.{Shown}
use Rattle.world_sim.specs.declared.fault.WorldFault.{WorldFault}
use Rattle.world_sim.specs.declared.fault.WorldFault.TheVariants.{NoMemory}
use Rattle.world_sim.specs.World.{World}
use Rattle.world_sim.specs.Acts.{Act}
use Rattle.world_sim.specs.Acting.{Acted}
use Rattle.world_sim.specs.Exclusivity.{RenewsLawfully}

-- What each act showed, or why it was refused.
abbrev pub Answers : Type 0
Answers = List (Result Shown WorldFault)

-- one act after the other; those behind a refused one are done too
abbrev pub AllActed : World → List Act → Answers → World → Type 0
AllActed w [] [] new = new ≡ w
AllActed w [] (answer ∷ answers) new = ⊥
AllActed w (act ∷ acts) [] new = ⊥
AllActed w (act ∷ acts) (answer ∷ answers) new = (middle : World) × Acted w act answer middle × AllActed middle acts answers new

-- what is so between the world before and the world after each act of a list
abbrev pub InEachAct : (World → World → Type 0) → World → List Act → Answers → Type 0
InEachAct IsSo w [] answers = Unit {0}
InEachAct IsSo w (act ∷ acts) [] = Unit {0}
InEachAct IsSo w (act ∷ acts) (answer ∷ answers) = (new : World) → Acted w act answer new → IsSo w new × InEachAct IsSo new acts answers

-- what is so of the world after each act of a list
abbrev pub AfterEachAct : (World → Type 0) → World → List Act → Answers → Type 0
AfterEachAct IsSo = InEachAct (λ _ new. IsSo new)

-- so it is after each act of every list
abbrev pub StaysSo : (World → Type 0) → World → Type 0
StaysSo IsSo w = (acts : List Act) (answers : Answers) → AfterEachAct IsSo w acts answers

-- each act of every list renews targets lawfully
abbrev pub StaysLawful : World → Type 0
StaysLawful w = (acts : List Act) (answers : Answers) → InEachAct RenewsLawfully w acts answers

-- all acts were tried; or memory ran out before the first, and nothing has changed
abbrev pub HasRun : World → List Act → Result (Vec (Result Shown WorldFault) Global) WorldFault → World → Type 0
HasRun w acts (Ok answers) new = AllActed w acts answers.items new
HasRun w acts (Err fault) new = (fault ≡ NoMemory) × (new ≡ w)
