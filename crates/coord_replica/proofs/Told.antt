-- What a call says of a frame.
use Rattle.std.proofs.Common.{◌≡◌, ℕ, Some, refl}
use Rattle.coord_node.specs.declared.event.Answered.{Answered}
use Rattle.coord_node.specs.declared.event.Answered.TheVariants as answered
use Rattle.coord_node.specs.Answers.{IsAnswered}
use Rattle.coord_node.specs.Coordinator.{Answer, Replied, Closes, Done}
use Rattle.replica_entries.specs.Values.{FrameValue, frame}
use Rattle.coord_replica.specs.declared.applied.Applied.TheVariants as applied
use Rattle.coord_replica.specs.Applying.{told_under}

pub told_under-frame : (l : ℕ) (f : FrameValue) (kind : Answered) (a : Answer) → IsAnswered kind a
    → told_under l (frame f) (Some a) ≡ Some (applied.Frame l f.connection f.number kind)
told_under-frame l f answered.Replied (Replied bytes) is = refl
told_under-frame l f answered.Replied Closes is = absurd is
told_under-frame l f answered.Replied (Done removed) is = absurd is
told_under-frame l f answered.Closes (Replied bytes) is = absurd is
told_under-frame l f answered.Closes Closes is = refl
told_under-frame l f answered.Closes (Done removed) is = absurd is
