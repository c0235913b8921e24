-- The limits and times of the coordinator, each as a literal, which all definitions cite. The constants of the code
-- are these by a law (`constants_are_the_limits`). All of them are ours but where a standard is named.
use Rattle.std.specs.Prelude.{◌≡◌, ℕ, ℤ, pos}
use Rattle.flex_wire.specs.declared.text.TheConstants as wire_constants
use Rattle.flex_wire.specs.Limits as wire
use Rattle.group_types.specs.declared.limits.TheConstants as constants

-- ---- frames and texts

-- the fewest and the most bytes of the body of a frame
abbrev pub SMALLEST_BODY : ℕ
SMALLEST_BODY = 1

abbrev pub LARGEST_BODY : ℕ
LARGEST_BODY = 8388608

-- the most bytes of a member's id: as of every text on the wire
abbrev pub LONGEST_STRING : ℕ
LONGEST_STRING = wire.LONGEST_STRING

-- the most bytes of the metadata that a commit stores with an offset (the default of Kafka's offset.metadata.max.bytes)
abbrev pub LONGEST_METADATA : ℕ
LONGEST_METADATA = 4096

-- ---- images

-- the most topics of an image
abbrev pub MOST_TOPICS : ℕ
MOST_TOPICS = 10000

-- the most partitions of one topic
abbrev pub MOST_TOPIC_PARTITIONS : ℕ
MOST_TOPIC_PARTITIONS = 100000

-- the most partitions of all the topics of an image together
abbrev pub MOST_PARTITIONS : ℕ
MOST_PARTITIONS = 1000000

-- ---- groups

-- the most members of a group
abbrev pub MOST_MEMBERS : ℕ
MOST_MEMBERS = 10000

-- the most groups of a node
abbrev pub MOST_GROUPS : ℕ
MOST_GROUPS = 100000

-- the most ids of former members that a group remembers
abbrev pub MOST_PAST_MEMBERS : ℕ
MOST_PAST_MEMBERS = 4096

-- the greatest epoch of a group, a target or a member: the greatest INT32, as KIP-848's epochs are INT32
abbrev pub GREATEST_EPOCH : ℕ
GREATEST_EPOCH = 2147483647

-- ---- times, in milliseconds

-- how long a member may be silent (KIP-848, group.consumer.session.timeout.ms: its default)
abbrev pub SESSION_TIMEOUT : ℕ
SESSION_TIMEOUT = 45000

-- how long a member waits between heartbeats (KIP-848, group.consumer.heartbeat.interval.ms: its default)
abbrev pub HEARTBEAT_INTERVAL : ℤ
HEARTBEAT_INTERVAL = pos 5000

-- ---- the code

-- each constant of the code is the literal of this page
pub record ConstantsAreTheLimits : Type 0 where
  pub longest_text : wire_constants.LONGEST_STRING ≡ wire.LONGEST_STRING
  pub smallest_body : constants.SMALLEST_BODY ≡ SMALLEST_BODY
  pub largest_body : constants.LARGEST_BODY ≡ LARGEST_BODY
  pub longest_metadata : constants.LONGEST_METADATA ≡ LONGEST_METADATA
  pub most_topics : constants.MOST_TOPICS ≡ MOST_TOPICS
  pub most_topic_partitions : constants.MOST_TOPIC_PARTITIONS ≡ MOST_TOPIC_PARTITIONS
  pub most_partitions : constants.MOST_PARTITIONS ≡ MOST_PARTITIONS
  pub most_members : constants.MOST_MEMBERS ≡ MOST_MEMBERS
  pub most_groups : constants.MOST_GROUPS ≡ MOST_GROUPS
  pub most_past_members : constants.MOST_PAST_MEMBERS ≡ MOST_PAST_MEMBERS
  pub greatest_epoch : constants.GREATEST_EPOCH ≡ GREATEST_EPOCH
  pub session_timeout : constants.SESSION_TIMEOUT ≡ SESSION_TIMEOUT
  pub heartbeat_interval : constants.HEARTBEAT_INTERVAL ≡ HEARTBEAT_INTERVAL
