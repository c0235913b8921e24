-- What the code answers, as the machine's answer.
use Rattle.std.specs.Prelude.{◌≡◌, ℕ, ◌≤◌, ◌+◌, ◌*◌, pos, ◌≤ℤ◌, length, Option, Some, IfSome}
use Rattle.std.specs.Option.{option_map_or}
use Rattle.group_types.specs.declared.code.Code.TheVariants.{NoError}
use Rattle.group_types.specs.Limits.{HEARTBEAT_INTERVAL, MOST_PARTITIONS}
use Rattle.group_types.specs.Text.{Text}
use Rattle.group_types.specs.Sets.{size}
use Rattle.group_types.specs.Partition.{Partitions}
use Rattle.group_types.specs.Topics.{Topics}
use Rattle.group_types.specs.Group.{Group}
use Rattle.group_types.specs.Renewal.{view_for}
use Rattle.group_types.specs.HeartbeatStep as machine
use Rattle.group_core.specs.declared.outcome.Reply.{Reply}
use Rattle.group_core.specs.declared.outcome.Outcome.{Outcome}
use Rattle.group_core.specs.declared.outcome.Outcome.TheVariants as outcome

-- a reply, field by field
abbrev pub reply_of : Reply → machine.Reply
reply_of r =
    record { code = r.code; member = r.member; epoch = r.epoch; interval = r.interval; assignment = r.assignment }

-- a reply, or that the connection is closed
abbrev pub answer_of : Outcome → machine.Answer
answer_of (outcome.Reply r) = machine.Replied (reply_of r)
answer_of outcome.Overtaken = machine.Closes

-- KIP-848, "ConsumerGroupHeartbeat API": a reply assigns no more partitions than an image may have
abbrev pub HasFewPartitions : machine.Answer → Type 0
HasFewPartitions (machine.Replied r) = IfSome r.assignment (λ set. size set ≤ MOST_PARTITIONS)
HasFewPartitions machine.Closes = Unit {0}

-- ---- the bytes that are reserved for the frame of a reply (ours); a law of the node says that no frame takes more

-- what a reply takes at most but for its member id and its partitions: the size, the header and the other fields, the text of an
-- error among them
abbrev pub FIXED_ROOM : ℕ
FIXED_ROOM = 100

-- what a partition takes at most: its index, and the entry of its topic
abbrev pub PARTITION_ROOM : ℕ
PARTITION_ROOM = 30

abbrev pub room_for : Option Text → Option Partitions → ℕ
room_for member assignment = FIXED_ROOM + option_map_or length member 0 + PARTITION_ROOM * option_map_or size assignment 0

abbrev pub reply_room : machine.Reply → ℕ
reply_room r = room_for r.member r.assignment

-- `room` further bytes are enough for the frame of the answer
abbrev pub HasRoomFor : machine.Answer → ℕ → Type 0
HasRoomFor (machine.Replied r) room = reply_room r ≤ room
HasRoomFor machine.Closes room = Unit {0}

-- ---- an accepted heartbeat

-- KIP-848, "ConsumerGroupHeartbeat API": a member's heartbeat is accepted at its member epoch, and it may read the set
abbrev pub accepted : Text → ℕ → Partitions → machine.Reply
accepted m epoch set =
    record { code = NoError; member = Some m; epoch = pos epoch; interval = HEARTBEAT_INTERVAL; assignment = Some set }

-- ---- the view

-- the stored view is that of this image
abbrev pub IsCurrent : Group → Topics → Type 0
IsCurrent g image = g.view ≡ view_for image g.records

-- after a join or a beat that is accepted the stored view is that of the image
abbrev pub IsCurrentAfter : machine.Answer → Group → Topics → Type 0
IsCurrentAfter (machine.Replied r) g image = r.code ≡ NoError → pos 0 ≤ℤ r.epoch → IsCurrent g image
IsCurrentAfter machine.Closes g image = Unit {0}

-- ---- every answer

-- what holds of an answer and the group after it, where there is room for `free` further bytes
pub record IsResponse (answer : machine.Answer) (g : Group) (image : Topics) (free : ℕ) : Type 0 where
  pub few : HasFewPartitions answer
  pub current : IsCurrentAfter answer g image
  pub room : HasRoomFor answer free
