use Rattle.std.proofs.Common.{◌≡◌, ℕ, ◌<◌, Some, slice_get, true}
use Rattle.topic_meta.specs.declared.view_topic.ViewTopic.{ViewTopic}
use Rattle.uniform_assign.specs.Marks.{is_marked}
use Rattle.uniform_assign.proofs.lawful.are_all_marked.Given as goal

abbrev pub invariant-loop-at : goal.invariant-loop-at
invariant-loop-at l = (t i : ℕ) (topic : ViewTopic) → t < l.at → slice_get l.topics t ≡ Some topic → i < topic.count → is_marked l.marks t i ≡ true
