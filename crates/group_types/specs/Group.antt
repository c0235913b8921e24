-- The state of one consumer group (KIP-848, "Group Coordinator": group epoch, target assignment,
-- member epochs and current assignment). A new group has the epoch 0 and no members.
use Rattle.std.specs.Prelude.{ℕ, ℤ, List, [], Option, map, filter}
use Rattle.std.specs.declared.cmp.Ordering.{Ordering}
use Rattle.std.specs.Ordering.{int_cmp, ordering_then, eq_by_cmp}
use Rattle.std.specs.FinMap as finite
use Rattle.group_types.specs.declared.assignor_name.AssignorName.{AssignorName}
use Rattle.group_types.specs.declared.epoch.Epoch.{Epoch}
use Rattle.group_types.specs.declared.partition.Partition.{Partition}
use Rattle.group_types.specs.declared.stamp.Stamp.{Stamp}
use Rattle.group_types.specs.Text.{Text, text_cmp}
use Rattle.group_types.specs.Sets.{FinSet, nothing, in_order, of_list}
use Rattle.group_types.specs.Partition.{partition_cmp, Partitions}
use Rattle.group_types.specs.Topics.{Topics, Names}
use Rattle.group_types.specs.Owners.{Spread, share_of}

-- what the coordinator keeps of one member
pub record Record : Type 0 where
  pub instance : Option Text
  pub rack : Option Text
  pub names : Names  -- the topics that it subscribes
  pub assignor : Option AssignorName
  pub rebalance_timeout : ℕ  -- in milliseconds, as every time here
  pub epoch : Epoch  -- the member epoch, or Away
  pub previous_epoch : ℕ
  pub stamp : Stamp  -- of its last accepted heartbeat (ours)
  pub sent : Option Partitions  -- the set that it was last sent
  pub session_deadline : ℕ
  pub release_deadline : Option ℕ

abbrev pub Records : Type 0
Records = finite.FinMap text_cmp Record

-- KIP-848, "Target Assignment": who is to own which partition
abbrev pub Target : Type 0
Target = Spread

-- a partition that a member may read, by the member's id
abbrev pub Grant : Type 0
Grant = Text × Partition

abbrev pub grant_cmp : Grant → Grant → Ordering
grant_cmp a b = ordering_then (text_cmp a.0 b.0) (partition_cmp a.1 b.1)

-- KIP-848, "Current Assignment": the pairs of member and partition
abbrev pub Grants : Type 0
Grants = FinSet grant_cmp

-- what was committed for a partition
pub record Committed : Type 0 where
  pub offset : ℤ
  pub leader_epoch : ℤ
  pub metadata : Option Text

-- a topic's name and an index
abbrev pub place_cmp : Text × ℤ → Text × ℤ → Ordering
place_cmp a b = ordering_then (text_cmp a.0 b.0) (int_cmp a.1 b.1)

abbrev pub Offsets : Type 0
Offsets = finite.FinMap place_cmp Committed

-- the last ids that had a record and have none, with their last stamps, oldest first (ours)
abbrev pub Past : Type 0
Past = List (Text × Stamp)

pub record Group : Type 0 where
  pub salt : ℕ  -- of the ids that are made (ours); it never changes
  pub epoch : ℕ  -- the group epoch
  pub target_epoch : ℕ
  pub records : Records
  pub target : Target
  pub grants : Grants
  pub offsets : Offsets
  pub view : Topics  -- the stored view
  pub clock : ℕ  -- the greatest moment that was used (ours)
  pub serial : ℕ  -- of the next id that is made (ours)
  pub past : Past

-- a group of an epoch that nobody has joined yet
abbrev pub starting_group : ℕ → ℕ → Group
starting_group salt epoch =
    record {
      salt = salt;
      epoch = epoch;
      target_epoch = epoch;
      records = finite.empty;
      target = finite.empty;
      grants = nothing;
      offsets = finite.empty;
      view = finite.empty;
      clock = 0;
      serial = 1;
      past = [];
    }

abbrev pub new_group : ℕ → Group
new_group salt = starting_group salt 0

-- a member's set in a target: empty where it has none
abbrev pub wanted : Target → Text → Partitions
wanted target m = share_of target m

-- a member's set in the grants
abbrev pub held : Grants → Text → Partitions
held grants m = of_list (map (λ g. g.1) (filter (λ g. eq_by_cmp text_cmp m g.0) (in_order grants)))
