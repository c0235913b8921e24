-- What a desk's answer adds to the replies that wait.
use Rattle.std.specs.Prelude.{◌≡◌, ◌⊎◌, ℕ, List, ◌++◌, Result, Ok, Err}
use Rattle.std.specs.declared.alloc.AllocError.{AllocError}
use Rattle.group_types.specs.declared.stamp.Stamp.{Stamp}
use Rattle.coord_node.specs.Coordinator.{Answer, bytes_of}
use Rattle.coord_node.specs.Answers.{IsAnswered}
use Rattle.coord_node.specs.declared.event.Answered.{Answered}
use Rattle.link_futures.specs.Desks.{Answering}
use Rattle.link_futures.specs.Buffers.{Waiting, bytes_of_all}

abbrev pub AnswersInto : {D : Type 0} → Answering D → (D → D → Type 0) → D → List ℕ → Stamp → Result Answered AllocError → D → List Waiting → List Waiting → Type 0
AnswersInto answers lacks d body stamp (Ok kind) e before after =
    (answer : Answer) × IsAnswered kind answer × answers d body stamp answer e × (bytes_of_all after ≡ bytes_of_all before ++ bytes_of answer)
AnswersInto answers lacks d body stamp (Err error) e before after = ((e ≡ d) ⊎ lacks d e) × (after ≡ before)
