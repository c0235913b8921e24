-- What a desk does with the frames of a line.
use Rattle.std.specs.Prelude.{◌≡◌, ℕ, ◌+◌, Bool, true, false, List, [], ◌∷◌, ◌++◌, Result, Ok, Err}
use Rattle.std.specs.declared.alloc.AllocError.{AllocError}
use Rattle.group_types.specs.declared.stamp.Stamp.{Stamp}
use Rattle.coord_node.specs.Coordinator.{Coordinator, Event, Answer, Replied, Closes, Done, bytes_of}
use Rattle.coord_node.specs.Answers.{IsAnswered}
use Rattle.coord_node.specs.Steps.{Step}
use Rattle.coord_node.specs.declared.event.Answered.{Answered}
use Rattle.coord_node.specs.declared.event.Answered.TheVariants as answered

-- the step of a coordinator's run
abbrev pub NodeStep : Coordinator → Event → Answer → Coordinator → Type 0
NodeStep = Step

-- what a desk may answer to a frame's body and its stamp, and the state that it is in then
abbrev pub Answering : Type 0 → Type 1
Answering D = D → List ℕ → Stamp → Answer → D → Type 0

-- The desk answers a body by its relation, and appends the bytes of the answer. Where it lacks memory it appends none.
abbrev pub Gives : {D : Type 0} → Answering D → (D → D → Type 0) → D → List ℕ → Stamp → Result Answered AllocError → D → List ℕ → List ℕ → Type 0
Gives answers lacks d body stamp (Ok kind) e before after =
    (answer : Answer) × IsAnswered kind answer × answers d body stamp answer e × (after ≡ before ++ bytes_of answer)
Gives answers lacks d body stamp (Err error) e before after = lacks d e × (after ≡ before)

-- a frame's body and its answer
pub record Exchange : Type 0 where
  pub body : List ℕ
  pub answer : Answer

-- how far a line is: its connection's number, how many of its frames are answered, and whether the desk closed
pub record Place : Type 0 where
  pub connection : ℕ
  pub answered : ℕ
  pub is_closed : Bool

-- the next frame's stamp: the numbers of the connection and of the frame, which begins at 1
abbrev pub next_stamp : Place → Stamp
next_stamp p = record { connection = p.connection; frame = p.answered + 1 }

abbrev pub closes : Answer → Bool
closes (Replied bytes) = false
closes Closes = true
closes (Done removed) = false

abbrev pub place_after : Place → Answer → Place
place_after p answer =
    record { connection = p.connection; answered = p.answered + 1; is_closed = closes answer }

-- From one place to another the desk goes through its relation for these frames in order, with consecutive numbers.
-- Once it has closed it answers no more.
abbrev pub Goes : {D : Type 0} → Answering D → Place → D → List Exchange → Place → D → Type 0
Goes answers p d [] q e = (q ≡ p) × (e ≡ d)
Goes {D} answers p d (x ∷ xs) q e =
    (p.is_closed ≡ false)
    × ((middle : D) × answers d x.body (next_stamp p) x.answer middle × Goes answers (place_after p x.answer) middle xs q e)

-- whether an answer of this kind closes
abbrev pub closes_by : Answered → Bool
closes_by answered.Replied = false
closes_by answered.Closes = true
