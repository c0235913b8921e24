-- What is shown of the parts of acts.
use Rattle.std.specs.Prelude.{◌≡◌, ℕ, Bool, false, List, Option, is_none, MatchOption}
use Rattle.kip_msgs.specs.Values.{RequestValue, heartbeat_request, commit_request}
use Rattle.kip_msgs.specs.Spelling.{SpellsRequest}
use Rattle.coord_node.specs.declared.event.Answered.{Answered}
use Rattle.coord_node.specs.Coordinator.{Coordinator, Frame}
use Rattle.coord_node.specs.Answers.{Answers}
use Rattle.world_sim.specs.declared.mail.Request.{Request}
use Rattle.world_sim.specs.declared.shown.Shown.{Shown}
use Rattle.world_sim.specs.World.{World}
use Rattle.world_sim.specs.Acts.{Act, Outcome, ActStep, is_forgotten}
use Rattle.world_sim.specs.Acting.{IsShown}

-- an act that isn't refused
abbrev pub Shows : World → Act → Shown → World → Type 0
Shows w act shown new = (outcome : Outcome) × ActStep w act outcome new × IsShown shown outcome

-- a request is a join under an id that its group doesn't remember
abbrev pub joins_forgotten : Coordinator → RequestValue → Bool
joins_forgotten c (heartbeat_request header v) = is_forgotten c v
joins_forgotten c (commit_request header v) = false

-- What came of a request: the coordinator's step at a moment, and the bytes of its answer were appended. Nothing came of such a
-- join, and nothing has changed.
pub record AnswersUnlessForgotten (old : Coordinator) (q : Request) (moment : ℕ) (came : Option Answered) (new : Coordinator) (before after : List ℕ) : Type 0 where
  pub forgotten : (v : RequestValue) → SpellsRequest v q.frame → is_none came ≡ joins_forgotten old v
  pub step : MatchOption came (new ≡ old) (λ answered. Answers old (Frame q.frame q.stamp moment) answered new before after)
