-- Which line stands for what became of a frame.
use Rattle.std.specs.Prelude.{◌≡◌, ℕ, List, ◌++◌, codes}
use Rattle.hex.specs.Hex.{encode_lower}
use Rattle.group_types.specs.declared.stamp.Stamp.{Stamp}
use Rattle.coord_node.specs.declared.event.Answered.{Answered}
use Rattle.coord_node.specs.declared.event.Answered.TheVariants as answered
use Rattle.coord_node.specs.Coordinator.{Coordinator, Answer, bytes_of}
use Rattle.coord_node.specs.Answers.{IsAnswered}
use Rattle.scenario_lines.specs.Requests.{BytesStep}

-- the reply in hex, or `close`
abbrev pub line_of : Answered → List ℕ → List ℕ
line_of answered.Replied reply = encode_lower reply
line_of answered.Closes reply = codes "close"

-- bytes are answered, and the answer's own bytes were appended
pub record AnswersBytes (old : Coordinator) (bytes : List ℕ) (stamp : Stamp) (moment : ℕ) (kind : Answered) (new : Coordinator) (before after : List ℕ) : Type 0 where
  pub answer : Answer
  pub is_answered : IsAnswered kind answer
  pub step : BytesStep old bytes stamp moment answer new
  pub appended : after ≡ before ++ bytes_of answer
