-- Clients that subscribe a topic of their own, of one partition, and ask for the assignor range: what they say, and what
-- comes of them in a group of such members.
use Rattle.std.specs.Prelude.{ℕ, ℤ, suc, pos, List, [], ◌∷◌, Some, None, Bool, true, false}
use Rattle.std.specs.FinMap as finite
use Rattle.group_types.specs.declared.assignor_name.AssignorName.TheVariants.{Range}
use Rattle.group_types.specs.declared.code.Code.TheVariants as codes
use Rattle.group_types.specs.declared.epoch.Epoch.TheVariants.{At}
use Rattle.group_types.specs.declared.partition.Partition.{Partition}
use Rattle.group_types.specs.declared.stamp.Stamp.{Stamp}
use Rattle.group_types.specs.Limits.{HEARTBEAT_INTERVAL}
use Rattle.group_types.specs.Text.{Text}
use Rattle.group_types.specs.Sets.{of_list, with_one}
use Rattle.group_types.specs.Partition.{Partitions}
use Rattle.group_types.specs.Topics.{Topic, Topics}
use Rattle.group_types.specs.AssignorName.{assignor_text}
use Rattle.group_types.specs.Assignors.{Subscriber}
use Rattle.group_types.specs.Group.{Record, Records, Target, Grants, Group, new_group}
use Rattle.group_types.specs.Join.{record_of_join}
use Rattle.group_types.specs.MemberId.{made_id}
use Rattle.group_types.specs.Renewal.{subscriber_of}
use Rattle.group_types.specs.Request.{Heartbeat}
use Rattle.group_types.specs.HeartbeatStep.{Arrival, Reply}
use Rattle.member_core.specs.Settings.{Settings}
use Rattle.member_core.specs.Client.{Client, new_client}
use Rattle.member_core.specs.Asking.{Join, heartbeat_for}

pub record Newcomer : Type 0 where
  pub earlier : ℕ  -- how many have joined before it
  pub name : Text  -- its topic's
  pub topic : List ℕ  -- its topic's id

-- its number among the clients, the serial of its id, and the group's epoch once it has joined
abbrev pub number_of : Newcomer → ℕ
number_of x = suc x.earlier

-- ---- what it asks for

abbrev pub GROUP : Text
GROUP = 103 ∷ []

abbrev pub topic_of : Newcomer → Topic
topic_of x = record { id = x.topic; count = 1 }

abbrev pub partition_of : Newcomer → Partition
partition_of x = record { topic = x.topic; index = pos 0 }

-- its own partition, or none
abbrev pub parts_of : Newcomer → Bool → List Partition
parts_of x true = partition_of x ∷ []
parts_of x false = []

abbrev pub set_of : Newcomer → Bool → Partitions
set_of x has_it = of_list (parts_of x has_it)

abbrev pub settings_of : Newcomer → Settings
settings_of x =
    record { group = GROUP; instance = None; rack = None; rebalance_timeout = 60000; names = x.name ∷ []; assignor = Some (assignor_text Range) }

abbrev pub client_of : Newcomer → Client
client_of x = new_client (settings_of x)

abbrev pub join_of : Newcomer → Heartbeat
join_of x = heartbeat_for (client_of x) Join

-- a full heartbeat under an id and at an epoch, that reports its partition or none
abbrev pub heartbeat_at : Newcomer → Text → ℕ → Bool → Heartbeat
heartbeat_at x member epoch owns = record (join_of x) { member = member; epoch = pos epoch; owned = Some (parts_of x owns) }

abbrev pub stamp_at : Newcomer → ℕ → Stamp
stamp_at x frame = record { connection = number_of x; frame = frame }

abbrev pub arrival_of : Newcomer → Topics → Arrival
arrival_of x image = record { heartbeat = join_of x; stamp = stamp_at x 1; moment = 0; image = image }

-- ---- what comes of it

abbrev pub id_of : Newcomer → Text
id_of x = made_id 0 (number_of x)

-- before it is offered its target
abbrev pub record_of : Newcomer → Record
record_of x = record_of_join None (join_of x) (stamp_at x 1) 0

abbrev pub newest : Newcomer → Subscriber
newest x = subscriber_of (id_of x, record_of x)

abbrev pub shown_to : Newcomer → Partitions
shown_to x = set_of x true

-- once it is granted its target
abbrev pub kept_of : Newcomer → Record
kept_of x = record (record_of x) { epoch = At (number_of x); sent = Some (shown_to x) }

-- at an epoch it is shown its partition, or none
abbrev pub reply_at : Newcomer → ℤ → Bool → Reply
reply_at x epoch shows =
    record { code = codes.NoError; member = Some (id_of x); epoch = epoch; interval = HEARTBEAT_INTERVAL; assignment = Some (set_of x shows) }

abbrev pub reply_to : Newcomer → Reply
reply_to x = reply_at x (pos (number_of x)) true

-- ---- the group

-- the group after a number of joins, where nothing else has happened
abbrev pub after_joins : ℕ → Records → Target → Grants → Topics → Group
after_joins joins records target grants view =
    record (new_group 0) {
      epoch = joins;
      target_epoch = joins;
      records = records;
      target = target;
      grants = grants;
      view = view;
      serial = suc joins;
    }

-- the same, after one more
abbrev pub joined_by : Newcomer → Records → Target → Grants → Topics → Group
joined_by x records target grants view =
    after_joins (number_of x) (finite.insert records (id_of x) (kept_of x)) (finite.insert target (partition_of x) (id_of x))
    (with_one grants (id_of x, partition_of x)) (finite.insert view x.name (topic_of x))
