use Rattle.std.proofs.Common.{◌≡◌, ◌++◌}
use Rattle.std.specs.FinMap.{entries}
use Rattle.topic_meta.specs.Stored.{shown_entries}
use Rattle.topic_meta.specs.Views.{all_named}
use Rattle.topic_meta.proofs.image.Image.whole_view.Given as goal

-- the topics so far, with those that are left, are those of the image
abbrev pub invariant-loop-name : goal.invariant-loop-name
invariant-loop-name l = all_named l.topics.items ++ shown_entries l.name-iterator ≡ entries l.self
