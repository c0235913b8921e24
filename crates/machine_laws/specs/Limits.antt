-- The limits, the times and the member epochs that mean something, each as a number. (Which of them are a standard's the definitions say.)
use Rattle.std.specs.Prelude.{◌≡◌, pos, negsuc}
use Rattle.flex_wire.specs.Limits as wire
use Rattle.group_types.specs.Limits.{GREATEST_EPOCH, HEARTBEAT_INTERVAL, LARGEST_BODY, LONGEST_METADATA, LONGEST_STRING, MOST_GROUPS, MOST_MEMBERS, MOST_PARTITIONS, MOST_PAST_MEMBERS, MOST_TOPICS, MOST_TOPIC_PARTITIONS, SESSION_TIMEOUT, SMALLEST_BODY}
use Rattle.group_types.specs.Request.{GOES_AWAY_AT, LEAVES_AT, SAME_TIMEOUT}

pub record LimitsByHand : Type 0 where
  pub longest_text : wire.LONGEST_STRING ≡ 32767
  pub longest_id : LONGEST_STRING ≡ 32767
  pub smallest_body : SMALLEST_BODY ≡ 1
  pub largest_body : LARGEST_BODY ≡ 8388608
  pub longest_metadata : LONGEST_METADATA ≡ 4096
  pub most_topics : MOST_TOPICS ≡ 10000
  pub most_topic_partitions : MOST_TOPIC_PARTITIONS ≡ 100000
  pub most_partitions : MOST_PARTITIONS ≡ 1000000
  pub most_members : MOST_MEMBERS ≡ 10000
  pub most_groups : MOST_GROUPS ≡ 100000
  pub most_past_members : MOST_PAST_MEMBERS ≡ 4096
  pub greatest_epoch : GREATEST_EPOCH ≡ 2147483647
  pub session_timeout : SESSION_TIMEOUT ≡ 45000
  pub heartbeat_interval : HEARTBEAT_INTERVAL ≡ pos 5000
  pub leaves_at : LEAVES_AT ≡ negsuc 0
  pub goes_away_at : GOES_AWAY_AT ≡ negsuc 1
  pub same_timeout : SAME_TIMEOUT ≡ negsuc 0
