-- A commit of offsets at one group (KIP-848, "OffsetCommit"; Kafka protocol guide, "OffsetCommit Request v9").
use Rattle.std.specs.Prelude.{◌≡◌, ℤ, pos, Bool, true, false, not, ◌&&◌, ◌==◌, if◌then◌else◌, int_lt, nat_lt, List, [], ◌∷◌, map, length, Option, Some, None}
use Rattle.std.specs.List.{flat_map}
use Rattle.std.specs.Option.{option_map_or}
use Rattle.std.specs.FinMap as finite
use Rattle.group_types.specs.declared.code.Code.{Code}
use Rattle.group_types.specs.declared.code.Code.TheVariants as codes
use Rattle.group_types.specs.Limits.{LONGEST_METADATA}
use Rattle.group_types.specs.Text.{Text}
use Rattle.group_types.specs.Topics.{Topics}
use Rattle.group_types.specs.Owners.{is_index}
use Rattle.group_types.specs.Epoch.{is_at}
use Rattle.group_types.specs.Group.{Record, Records, Committed, Offsets, Group}

-- what is to be committed for an index of a topic
pub record Commitment : Type 0 where
  pub index : ℤ
  pub committed : Committed

-- what is to be committed for a topic
pub record TopicCommitments : Type 0 where
  pub name : Text
  pub partitions : List Commitment

pub record Commit : Type 0 where
  pub group : Text
  pub member : Text
  pub epoch : ℤ
  pub topics : List TopicCommitments  -- in the request's order

-- by the topics' names, the code of each index
abbrev pub CommitReply : Type 0
CommitReply = List (Text × List (ℤ × Code))

-- the answer in the request's order, where each partition has a code
abbrev pub answers_by : (Text → Commitment → Code) → Commit → CommitReply
answers_by code c = map (λ t. (t.name, map (λ x. (x.index, code t.name x)) t.partitions)) c.topics

-- ---- the whole commit: taken, or refused with one code

-- UNKNOWN_MEMBER_ID, STALE_MEMBER_EPOCH: a member's commit is taken at its member epoch alone
abbrev pub refusal_of_member : Option Record → ℤ → Option Code
refusal_of_member None epoch = Some codes.UnknownMemberId
refusal_of_member (Some r) epoch = if is_at r.epoch epoch then None else Some codes.StaleMemberEpoch

-- a commit of no member, at a negative epoch, is taken where the group has none
abbrev pub refusal_of_commit : Records → Text → ℤ → Option Code
refusal_of_commit records m epoch =
    if int_lt epoch (pos 0) && finite.len records == 0 then None else refusal_of_member (finite.get records m) epoch

-- ---- a taken commit, partition by partition

abbrev pub is_there : Topics → Text → ℤ → Bool
is_there image name index = option_map_or (λ t. is_index index t.count) (finite.get image name) false

abbrev pub is_too_long : Option Text → Bool
is_too_long metadata = option_map_or (λ text. nat_lt LONGEST_METADATA (length text)) metadata false

-- UNKNOWN_TOPIC_OR_PARTITION, OFFSET_METADATA_TOO_LARGE
abbrev pub code_of_taken : Topics → Text → Commitment → Code
code_of_taken image name x =
    if is_there image name x.index
    then (if is_too_long x.committed.metadata then codes.OffsetMetadataTooLarge else codes.NoError)
    else codes.UnknownTopicOrPartition

-- the offset is to be stored: its code is that of success
abbrev pub is_stored : Topics → Text → Commitment → Bool
is_stored image name x = is_there image name x.index && not (is_too_long x.committed.metadata)

-- the offsets with one more, where it is to be stored
abbrev pub with_offset : Bool → Offsets → Text → Commitment → Offsets
with_offset true offsets name x = finite.insert offsets (name, x.index) x.committed
with_offset false offsets name x = offsets

-- a commitment under its topic's name
abbrev pub named_commitments : TopicCommitments → List (Text × Commitment)
named_commitments t = map (λ x. (t.name, x)) t.partitions

-- one after the other, so that of repeated ones the last stands
abbrev pub with_offsets : Topics → Offsets → List (Text × Commitment) → Offsets
with_offsets image offsets [] = offsets
with_offsets image offsets (x ∷ xs) = with_offsets image (with_offset (is_stored image x.0 x.1) offsets x.0 x.1) xs

-- ---- the step

-- each partition's code, by whether the whole commit is refused
abbrev pub commit_reply : Option Code → Commit → Topics → CommitReply
commit_reply (Some code) c image = answers_by (λ name x. code) c
commit_reply None c image = answers_by (code_of_taken image) c

-- the offsets afterwards: a refusal stores none
abbrev pub offsets_after : Option Code → Offsets → Commit → Topics → Offsets
offsets_after (Some code) offsets c image = offsets
offsets_after None offsets c image = with_offsets image offsets (flat_map named_commitments c.topics)

pub record CommitStep (g : Group) (c : Commit) (image : Topics) (reply : CommitReply) (new : Group) : Type 0 where
  pub answers : reply ≡ commit_reply (refusal_of_commit g.records c.member c.epoch) c image
  pub stores : new ≡ record g { offsets = offsets_after (refusal_of_commit g.records c.member c.epoch) g.offsets c image }
