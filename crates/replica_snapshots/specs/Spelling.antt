-- The one spelling of each part of a group, and which parts have one: a column of fields for each (ours). The fields are
-- those of the Kafka protocol guide, section "Protocol Primitive Types", but for the unsigned number.
use Rattle.std.specs.Prelude.{ℕ, ℤ, pos, ◌<◌, ◌≤◌, ◌^◌, length, true, false, List, [], ◌∷◌, ◌++◌, Option, Some, None, IfSome, FitsSigned}
use Rattle.std.specs.Int.{w32, w64, to_be_bytes}
use Rattle.flex_wire.specs.Spelling.{int32, int64, uuid, FitsUuid, compact_string, FitsText, mark}
use Rattle.flex_wire.specs.Composed.{array, FitsArray}
use Rattle.kip_msgs.specs.Spelling.{fields}
use Rattle.group_types.specs.declared.assignor_name.AssignorName.{AssignorName}
use Rattle.group_types.specs.declared.partition.Partition.{Partition}
use Rattle.group_types.specs.declared.stamp.Stamp.{Stamp}
use Rattle.group_types.specs.AssignorName.{assignor_text}
use Rattle.group_types.specs.Epoch.{number_of}
use Rattle.group_types.specs.Limits.{LONGEST_METADATA, MOST_TOPIC_PARTITIONS}
use Rattle.group_types.specs.Owners.{IsIndex}
use Rattle.group_types.specs.Text.{Text}
use Rattle.group_types.specs.Topics.{Topic, Names}
use Rattle.group_types.specs.Sets.{in_order}
use Rattle.group_types.specs.Partition.{Partitions}
use Rattle.group_types.specs.Group.{Record, Committed, Past}
use Rattle.replica_snapshots.specs.declared.numbers.Numbers.{Numbers}
use Rattle.replica_snapshots.specs.Parts.{MemberPart, GroupParts}

-- ---- fields

-- An unsigned number: eight bytes, the highest first.
unfoldable pub number64 : ℕ → List ℕ
number64 n = to_be_bytes w64 n

-- An unsigned number of 64 bits.
abbrev pub FitsNumber : ℕ → Type 0
FitsNumber n = n < 2 ^ 64

-- A time in milliseconds, of 32 bits. It is spelled as an unsigned number.
abbrev pub FitsMillis : ℕ → Type 0
FitsMillis millis = millis < 2 ^ 32

-- An epoch, as an INT32.
abbrev pub epoch_field : ℕ → List ℕ
epoch_field epoch = int32 (pos epoch)

-- The number of an epoch is no more than the greatest INT32.
abbrev pub FitsEpoch : ℕ → Type 0
FitsEpoch epoch = epoch < 2 ^ 31

-- A value that may be missing: the mark of a nullable struct, and the value, if there is one.
abbrev pub optional : {V : Type 0} → (V → List ℕ) → Option V → List ℕ
optional spelling None = mark false
optional spelling (Some v) = mark true ++ spelling v

-- ---- stamps and sets

-- A stamp.
unfoldable pub stamp_fields : Stamp → List ℕ
stamp_fields stamp = fields (
    number64 stamp.connection
    ∷ number64 stamp.frame
    ∷ [])

pub record FitsStamp (stamp : Stamp) : Type 0 where
  pub connection : FitsNumber stamp.connection
  pub frame : FitsNumber stamp.frame

-- An index that a partition of a topic can have. It is spelled as an INT32.
abbrev pub FitsIndex : ℤ → Type 0
FitsIndex index = IsIndex index MOST_TOPIC_PARTITIONS

-- A partition.
unfoldable pub partition_fields : Partition → List ℕ
partition_fields p = fields (
    uuid p.topic
    ∷ int32 p.index
    ∷ [])

pub record FitsPartition (p : Partition) : Type 0 where
  pub topic : FitsUuid p.topic
  pub index : FitsIndex p.index

-- A set of partitions, rising.
abbrev pub partitions_field : Partitions → List ℕ
partitions_field set = array partition_fields (in_order set)

abbrev pub FitsPartitions : Partitions → Type 0
FitsPartitions set = FitsArray FitsPartition (in_order set)

-- A set of names, rising.
abbrev pub names_field : Names → List ℕ
names_field names = array compact_string (in_order names)

abbrev pub FitsNames : Names → Type 0
FitsNames names = FitsArray FitsText (in_order names)

-- ---- a member

-- An assignor, by its name.
abbrev pub assignor_field : AssignorName → List ℕ
assignor_field assignor = compact_string (assignor_text assignor)

abbrev pub FitsAssignor : AssignorName → Type 0
FitsAssignor assignor = FitsText (assignor_text assignor)

-- Which instance a member is, and where.
unfoldable pub identity_fields : Record → List ℕ
identity_fields r = fields (
    optional compact_string r.instance
    ∷ optional compact_string r.rack
    ∷ [])

pub record FitsIdentity (r : Record) : Type 0 where
  pub instance : IfSome r.instance FitsText
  pub rack : IfSome r.rack FitsText

-- What a member subscribes and asks for.
unfoldable pub wishes_fields : Record → List ℕ
wishes_fields r = fields (
    names_field r.names
    ∷ optional assignor_field r.assignor
    ∷ number64 r.rebalance_timeout
    ∷ [])

pub record FitsWishes (r : Record) : Type 0 where
  pub names : FitsNames r.names
  pub assignor : IfSome r.assignor FitsAssignor
  pub rebalance_timeout : FitsMillis r.rebalance_timeout

-- How far a member has come. The epoch of one that is away is missing.
unfoldable pub progress_fields : Record → List ℕ
progress_fields r = fields (
    optional epoch_field (number_of r.epoch)
    ∷ epoch_field r.previous_epoch
    ∷ stamp_fields r.stamp
    ∷ [])

pub record FitsProgress (r : Record) : Type 0 where
  pub epoch : IfSome (number_of r.epoch) FitsEpoch
  pub previous_epoch : FitsEpoch r.previous_epoch
  pub stamp : FitsStamp r.stamp

-- What a member was last sent, and its deadlines.
unfoldable pub deadlines_fields : Record → List ℕ
deadlines_fields r = fields (
    optional partitions_field r.sent
    ∷ number64 r.session_deadline
    ∷ optional number64 r.release_deadline
    ∷ [])

pub record FitsDeadlines (r : Record) : Type 0 where
  pub sent : IfSome r.sent FitsPartitions
  pub session_deadline : FitsNumber r.session_deadline
  pub release_deadline : IfSome r.release_deadline FitsNumber

-- A member's record.
unfoldable pub record_fields : Record → List ℕ
record_fields r = fields (
    identity_fields r
    ∷ wishes_fields r
    ∷ progress_fields r
    ∷ deadlines_fields r
    ∷ [])

pub record FitsRecord (r : Record) : Type 0 where
  pub identity : FitsIdentity r
  pub wishes : FitsWishes r
  pub progress : FitsProgress r
  pub deadlines : FitsDeadlines r

-- A partition that a member may read, and the epoch of the target since which it may.
unfoldable pub grant_fields : Partition × ℕ → List ℕ
grant_fields g = fields (
    partition_fields g.0
    ∷ epoch_field g.1
    ∷ [])

pub record FitsGrant (g : Partition × ℕ) : Type 0 where
  pub partition : FitsPartition g.0
  pub since : FitsEpoch g.1

-- A member.
unfoldable pub member_fields : MemberPart → List ℕ
member_fields m = fields (
    compact_string m.id
    ∷ record_fields m.kept
    ∷ array grant_fields m.grants
    ∷ partitions_field m.target
    ∷ [])

pub record FitsMember (m : MemberPart) : Type 0 where
  pub id : FitsText m.id
  pub kept : FitsRecord m.kept
  pub grants : FitsArray FitsGrant m.grants
  pub target : FitsPartitions m.target

-- ---- the other parts of a group

-- A topic of the view, by its name.
unfoldable pub topic_fields : Text × Topic → List ℕ
topic_fields topic = fields (
    compact_string topic.0
    ∷ uuid topic.1.id
    ∷ int32 (pos topic.1.count)
    ∷ [])

pub record FitsTopic (topic : Text × Topic) : Type 0 where
  pub name : FitsText topic.0
  pub id : FitsUuid topic.1.id
  pub count : FitsSigned w32 (pos topic.1.count)

-- A former member, with its last stamp.
unfoldable pub former_fields : Text × Stamp → List ℕ
former_fields former = fields (
    compact_string former.0
    ∷ stamp_fields former.1
    ∷ [])

pub record FitsFormer (former : Text × Stamp) : Type 0 where
  pub id : FitsText former.0
  pub stamp : FitsStamp former.1

-- The metadata of a commit: a text that is no longer than a commit may have.
pub record FitsMetadata (metadata : Text) : Type 0 where
  pub text : FitsText metadata
  pub short : length metadata ≤ LONGEST_METADATA

-- What is committed.
unfoldable pub committed_fields : Committed → List ℕ
committed_fields c = fields (
    int64 c.offset
    ∷ int32 c.leader_epoch
    ∷ optional compact_string c.metadata
    ∷ [])

pub record FitsCommitted (c : Committed) : Type 0 where
  pub offset : FitsSigned w64 c.offset
  pub leader_epoch : FitsSigned w32 c.leader_epoch
  pub metadata : IfSome c.metadata FitsMetadata

-- What is committed for a topic's name and an index.
unfoldable pub offset_fields : (Text × ℤ) × Committed → List ℕ
offset_fields e = fields (
    compact_string e.0.0
    ∷ int32 e.0.1
    ∷ committed_fields e.1
    ∷ [])

pub record FitsOffset (e : (Text × ℤ) × Committed) : Type 0 where
  pub name : FitsText e.0.0
  pub index : FitsIndex e.0.1
  pub committed : FitsCommitted e.1

-- ---- a group

-- The epochs of a group: its own, and its target's.
unfoldable pub epochs_fields : Numbers → List ℕ
epochs_fields n = fields (
    epoch_field n.epoch
    ∷ epoch_field n.target_epoch
    ∷ [])

pub record FitsEpochs (n : Numbers) : Type 0 where
  pub epoch : FitsEpoch n.epoch
  pub target_epoch : FitsEpoch n.target_epoch

-- The numbers of a group.
unfoldable pub numbers_fields : Numbers → List ℕ
numbers_fields n = fields (
    number64 n.salt
    ∷ epochs_fields n
    ∷ number64 n.clock
    ∷ number64 n.ids_made
    ∷ [])

pub record FitsNumbers (n : Numbers) : Type 0 where
  pub salt : FitsNumber n.salt
  pub epochs : FitsEpochs n
  pub clock : FitsNumber n.clock
  pub ids_made : FitsNumber n.ids_made

-- The lists of a group: topics of the view in the order of names, former members from the oldest on, members in the order of
-- ids, offsets in the order of names and indexes.
unfoldable pub lists_fields : List (Text × Topic) → Past → List MemberPart → List ((Text × ℤ) × Committed) → List ℕ
lists_fields view past members offsets = fields (
    array topic_fields view
    ∷ array former_fields past
    ∷ array member_fields members
    ∷ array offset_fields offsets
    ∷ [])

pub record FitsLists (topics : List (Text × Topic)) (former : Past) (parts : List MemberPart) (committed : List ((Text × ℤ) × Committed)) : Type 0 where
  pub view : FitsArray FitsTopic topics
  pub past : FitsArray FitsFormer former
  pub members : FitsArray FitsMember parts
  pub offsets : FitsArray FitsOffset committed

-- The parts of a group.
unfoldable pub parts_fields : GroupParts → List ℕ
parts_fields g = numbers_fields g.numbers ++ lists_fields g.view g.past g.members g.offsets

pub record FitsParts (g : GroupParts) : Type 0 where
  pub numbers : FitsNumbers g.numbers
  pub lists : FitsLists g.view g.past g.members g.offsets
