-- KIP-848, "OffsetCommit": which code answers a commit of one partition. The first reason that applies is the answer.
use Rattle.std.specs.Prelude.{◌≡◌, ℕ, ◌<◌, ℤ, pos, negsuc, length, Option, Some, None}
use Rattle.std.specs.FinMap as finite
use Rattle.group_types.specs.declared.code.Code.{Code}
use Rattle.group_types.specs.declared.code.Code.TheVariants as codes
use Rattle.group_types.specs.declared.epoch.Epoch.TheVariants.{At}
use Rattle.group_types.specs.Limits.{LONGEST_METADATA}
use Rattle.group_types.specs.Text.{Text}
use Rattle.group_types.specs.Topics.{Topic, Topics}
use Rattle.group_types.specs.Group.{Record, Group}
use Rattle.group_types.specs.Commit.{Commit, Commitment, CommitReply, CommitStep, answers_by}

-- the commit is of a client without a group: it names no member epoch, and the group has no members
pub record IsOfNobody (g : Group) (c : Commit) : Type 0 where
  pub below : ℕ
  pub epoch : c.epoch ≡ negsuc below
  pub nobody : finite.len g.records ≡ 0

-- the commit is its member's, at its member epoch
pub record IsAtMemberEpoch (g : Group) (c : Commit) : Type 0 where
  pub kept : Record
  pub is_kept : finite.get g.records c.member ≡ Some kept
  pub epoch : ℕ
  pub is_epoch : kept.epoch ≡ At epoch
  pub same : c.epoch ≡ pos epoch

-- the commit is taken, partition by partition
pub data IsTaken (g : Group) (c : Commit) : Type 0 where
  nobodys : IsOfNobody g c → IsTaken g c
  members : IsAtMemberEpoch g c → IsTaken g c

-- the topic exists and has the index
pub record IsPartition (image : Topics) (name : Text) (index : ℤ) : Type 0 where
  pub topic : Topic
  pub is_topic : finite.get image name ≡ Some topic
  pub number : ℕ
  pub is_number : index ≡ pos number
  pub below : number < topic.count

abbrev pub IsTooLong : Option Text → Type 0
IsTooLong metadata = (text : Text) × (metadata ≡ Some text) × (LONGEST_METADATA < length text)

-- the codes in their order, each with what it says and that no earlier one applies
pub data IsCommitCode (g : Group) (c : Commit) (image : Topics) (name : Text) (x : Commitment) : Code → Type 0 where
  unknown_member : ¬ IsOfNobody g c → finite.get g.records c.member ≡ None
      → IsCommitCode g c image name x codes.UnknownMemberId
  stale_epoch : (r : Record) → ¬ IsOfNobody g c → finite.get g.records c.member ≡ Some r → ¬ IsAtMemberEpoch g c
      → IsCommitCode g c image name x codes.StaleMemberEpoch
  unknown_partition : IsTaken g c → ¬ IsPartition image name x.index
      → IsCommitCode g c image name x codes.UnknownTopicOrPartition
  long_metadata : IsTaken g c → IsPartition image name x.index → IsTooLong x.committed.metadata
      → IsCommitCode g c image name x codes.OffsetMetadataTooLarge
  stored : IsTaken g c → IsPartition image name x.index → ¬ IsTooLong x.committed.metadata
      → IsCommitCode g c image name x codes.NoError

-- a commit is answered in the request's order, each partition with its code
pub record HasCommitCodes (g : Group) (c : Commit) (image : Topics) (reply : CommitReply) : Type 0 where
  pub code : Text → Commitment → Code
  pub answers : reply ≡ answers_by code c
  pub is_code : (name : Text) (x : Commitment) → IsCommitCode g c image name x (code name x)

abbrev pub CommitsAreAnsweredInOrder : Type 0
CommitsAreAnsweredInOrder =
    (g : Group) (c : Commit) (image : Topics) (reply : CommitReply) (new : Group)
    → CommitStep g c image reply new → HasCommitCodes g c image reply
