-- A commit at a group, as the code answers it.
use Rattle.std.specs.Prelude.{◌≡◌}
use Rattle.kip_msgs.specs.Values.{CommitReplyValue}
use Rattle.group_types.specs.Topics.{Topics}
use Rattle.group_types.specs.Group.{Group}
use Rattle.group_types.specs.Commit.{Commit, CommitReply, CommitStep}
use Rattle.offset_guard.specs.Replies.{commit_reply_value}

-- the commit is the machine's step, and the message is that of its reply
pub record Commits (old : Group) (c : Commit) (image : Topics) (message : CommitReplyValue) (new : Group) : Type 0 where
  pub reply : CommitReply
  pub step : CommitStep old c image reply new
  pub says : message ≡ commit_reply_value reply
