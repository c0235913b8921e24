use Rattle.std.proofs.Common.{refl}
use Rattle.group_types.proofs.laws.constants_are_the_limits.Goals as goal

pub returns : goal.returns
returns c =
    record {
      longest_text = refl;
      smallest_body = refl;
      largest_body = refl;
      longest_metadata = refl;
      most_topics = refl;
      most_topic_partitions = refl;
      most_partitions = refl;
      most_members = refl;
      most_groups = refl;
      most_past_members = refl;
      greatest_epoch = refl;
      session_timeout = refl;
      heartbeat_interval = refl;
    }
