-- A member's commits (KIP-848, "OffsetCommit": at the member epoch that it knows).
use Rattle.std.specs.Prelude.{ℕ, pos, Bool, true, false, List, [], None, unwrap_or}
use Rattle.group_types.specs.Text.{Text}
use Rattle.kip_msgs.specs.Values.{CommitRequestTopicValue, CommitRequestValue, RequestValue, commit_request}
use Rattle.member_core.specs.Client.{Place, Outside, Inside, Gone, Client}
use Rattle.member_core.specs.Asking.{header_of}

-- from inside, also while it waits
abbrev pub may_commit_at : Place → Bool
may_commit_at Outside = false
may_commit_at Inside = true
may_commit_at Gone = false

-- a commit as a group's member sends it: under no instance, and no field but those of the topics is tagged
abbrev pub commit_value : Text → Text → ℕ → List CommitRequestTopicValue → CommitRequestValue
commit_value group id epoch topics =
    record {
      group_id = group;
      generation_id_or_member_epoch = pos epoch;
      member_id = id;
      group_instance_id = None;
      topics = topics;
      tags = [];
    }

-- its request, under a number of the caller's; the member stays as it is
abbrev pub commit_for : Client → ℕ → List CommitRequestTopicValue → RequestValue
commit_for c number topics =
    commit_request (header_of number) (commit_value c.settings.group (unwrap_or c.id []) c.epoch topics)
