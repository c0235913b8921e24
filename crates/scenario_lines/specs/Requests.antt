-- What the bytes of a request line ask, and what the line prints.
use Rattle.std.specs.Prelude.{◌≡◌, ◌⊎◌, ℕ, List, [], ◌∷◌, ◌++◌, codes, decimal, Ok}
use Rattle.hex.specs.Hex.{decode_of, encode_lower}
use Rattle.group_types.specs.declared.stamp.Stamp.{Stamp}
use Rattle.scenario_text.specs.RequestFrames.{IsFrameWithinLimits}
use Rattle.coord_node.specs.Coordinator.{Coordinator, Frame, Answer, Replied, Closes, Done}
use Rattle.coord_node.specs.Steps.{Step}
use Rattle.scenario_text.specs.Reports.{line}

-- the coordinator answers the body of a frame, and other bytes close
abbrev pub BytesStep : Coordinator → List ℕ → Stamp → ℕ → Answer → Coordinator → Type 0
BytesStep c bytes stamp moment answer new =
    ((body : List ℕ) × IsFrameWithinLimits body bytes × Step c (Frame body stamp moment) answer new)
    ⊎ (((body : List ℕ) → ¬ IsFrameWithinLimits body bytes) × (answer ≡ Closes) × (new ≡ c))

-- the frame of a reply in hex, `close`, or how many members were removed
abbrev pub text_of : Answer → List ℕ
text_of (Replied frame) = encode_lower frame
text_of Closes = codes "close"
text_of (Done removed) = line (codes "removed") (decimal removed ∷ [])

-- the bytes that a word spells in hex are answered, and the answer is one line more of the output
pub record PrintsAnswer (old : Coordinator) (word : List ℕ) (stamp : Stamp) (moment : ℕ) (new : Coordinator) (before after : List ℕ) : Type 0 where
  pub bytes : List ℕ
  pub spelled : decode_of word ≡ Ok bytes
  pub answer : Answer
  pub step : BytesStep old bytes stamp moment answer new
  pub printed : after ≡ before ++ text_of answer ++ 10 ∷ []
