-- What has to have a spelling so that a node can be written: all but what the types of the code say of every group, which is
-- that it is sound, that its grants are those of its holders, and that the epochs since which they are granted fit.
use Rattle.std.specs.Prelude.{◌≡◌, ℕ, ℤ, List}
use Rattle.flex_wire.specs.Composed.{FitsArray}
use Rattle.flex_wire.specs.Spelling.{FitsText}
use Rattle.group_types.specs.declared.partition.Partition.{Partition}
use Rattle.group_types.specs.Group.{Committed, Past}
use Rattle.group_types.specs.Text.{Text}
use Rattle.group_types.specs.Topics.{Topic}
use Rattle.group_reconcile.specs.Holders.{pairs}
use Rattle.coord_node.specs.Nodes.{Named}
use Rattle.replica_snapshots.specs.Groups.{parts_of}
use Rattle.replica_snapshots.specs.Nodes.{FitsHead, Head, OneGroup, Section}
use Rattle.replica_snapshots.specs.Parts.{GroupParts, MemberPart}
use Rattle.replica_snapshots.specs.Spelling.{FitsFormer, FitsNumbers, FitsOffset, FitsPartition, FitsPartitions, FitsRecord, FitsTopic}

-- A grant that can be written.
abbrev pub CanPutGrant : Partition × ℕ → Type 0
CanPutGrant g = FitsPartition g.0

-- A member that can be written.
pub record CanPutMember (m : MemberPart) : Type 0 where
  pub id : FitsText m.id
  pub kept : FitsRecord m.kept
  pub grants : FitsArray CanPutGrant m.grants
  pub target : FitsPartitions m.target

-- Lists of a group that can be written.
pub record CanPutLists (topics : List (Text × Topic)) (former : Past) (parts : List MemberPart) (committed : List ((Text × ℤ) × Committed)) : Type 0 where
  pub view : FitsArray FitsTopic topics
  pub past : FitsArray FitsFormer former
  pub members : FitsArray CanPutMember parts
  pub offsets : FitsArray FitsOffset committed

-- Parts of a group that can be written.
pub record CanPutParts (g : GroupParts) : Type 0 where
  pub numbers : FitsNumbers g.numbers
  pub lists : CanPutLists g.view g.past g.members g.offsets

-- A group under its name that can be written.
pub record CanPutNamed (g : Named) : Type 0 where
  pub name : FitsText g.0
  pub parts : g.1.0.grants ≡ pairs g.1.1 → CanPutParts (parts_of g.1)

-- A section that can be written.
abbrev pub CanPutSection : Section → Type 0
CanPutSection (Head h) = FitsHead h
CanPutSection (OneGroup g) = CanPutNamed g
