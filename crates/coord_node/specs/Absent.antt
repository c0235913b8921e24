-- The answer to a commit of a group that the node doesn't have.
use Rattle.std.specs.Prelude.{ℤ, List, map}
use Rattle.group_types.specs.declared.code.Code.{Code}
use Rattle.group_types.specs.declared.code.Code.TheVariants.{GroupIdNotFound}
use Rattle.group_types.specs.Text.{Text}
use Rattle.group_types.specs.Commit.{TopicCommitments}

-- GROUP_ID_NOT_FOUND for each partition of a topic
abbrev pub absent_topic : TopicCommitments → Text × List (ℤ × Code)
absent_topic t = (t.name, map (λ x. (x.index, GroupIdNotFound)) t.partitions)
