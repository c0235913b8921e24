use Rattle.std.proofs.Common.{◌≡◌, ◌<◌, ◌≤◌, ◌⊎◌, ℕ, Some, get_or}
use Rattle.std.specs.List.{slice_get}
use Rattle.topic_meta.specs.declared.view_topic.ViewTopic.{ViewTopic}
use Rattle.range_assign.proofs.range.are_dealt.Given as goal

-- the first topics are dealt
abbrev pub invariant-loop-t : goal.invariant-loop-t
invariant-loop-t l =
    (t : ℕ) (topic : ViewTopic) → t < l.t → slice_get l.topics t ≡ Some topic → (topic.count ≤ get_or l.places t 0) ⊎ (get_or l.counts t 0 ≤ get_or l.places t 0)
