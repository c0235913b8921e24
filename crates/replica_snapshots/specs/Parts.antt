-- What is told of a group, part by part: of each member its record, what it may read and since when, and what it is to own.
use Rattle.std.specs.Prelude.{ℕ, ℤ, List, map, unwrap_or}
use Rattle.group_types.specs.declared.partition.Partition.{Partition}
use Rattle.group_types.specs.Text.{Text}
use Rattle.group_types.specs.Topics.{Topic}
use Rattle.group_types.specs.Sets.{in_order}
use Rattle.group_types.specs.Partition.{Partitions}
use Rattle.group_types.specs.Owners.{share_of}
use Rattle.group_types.specs.Group.{Record, Target, Committed, Past, held}
use Rattle.group_reconcile.specs.Holders.{Holders, granted_at, pairs}
use Rattle.replica_snapshots.specs.declared.numbers.Numbers.{Numbers}

-- a member: its id and its record, what it may read with the epochs of the targets since which it may, and what it is to own
pub record MemberPart : Type 0 where
  pub id : Text
  pub kept : Record
  pub grants : List (Partition × ℕ)
  pub target : Partitions

-- a group: its numbers, the topics of its view, its former members, its members, and what they committed
pub record GroupParts : Type 0 where
  pub numbers : Numbers
  pub view : List (Text × Topic)
  pub past : Past
  pub members : List MemberPart
  pub offsets : List ((Text × ℤ) × Committed)

-- a partition that is held, and since when
abbrev pub grant_of : Holders → Partition → Partition × ℕ
grant_of holders p = (p, unwrap_or (granted_at holders p) 0)

-- what the member may read, and since when, in the partitions' order
abbrev pub grants_of : Holders → Text → List (Partition × ℕ)
grants_of holders id = map (grant_of holders) (in_order (held (pairs holders) id))

-- a member with its part of the holders and of the target
abbrev pub member_part : Holders → Target → Text × Record → MemberPart
member_part holders target m =
    record { id = m.0; kept = m.1; grants = grants_of holders m.0; target = share_of target m.0 }
