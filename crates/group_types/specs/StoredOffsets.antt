-- KIP-848, "OffsetCommit": the offsets of a group are the last ones that were committed and answered with no error.
use Rattle.std.specs.Prelude.{◌≡◌, ℤ, if◌then◌else◌, List, [], ◌∷◌, Option, Some, None}
use Rattle.std.specs.Option.{option_or}
use Rattle.std.specs.Ordering.{int_eq}
use Rattle.std.specs.Str.{bytes_eq}
use Rattle.std.specs.FinMap as finite
use Rattle.group_types.specs.declared.code.Code.{Code}
use Rattle.group_types.specs.declared.code.Code.TheVariants.{NoError, UnknownTopicOrPartition, OffsetMetadataTooLarge, CoordinatorNotAvailable, UnknownMemberId, InvalidRequest, GroupIdNotFound, GroupMaxSizeReached, FencedMemberEpoch, UnreleasedInstanceId, UnsupportedAssignor, StaleMemberEpoch}
use Rattle.group_types.specs.Text.{Text}
use Rattle.group_types.specs.Topics.{Topics}
use Rattle.group_types.specs.Group.{Committed, Group}
use Rattle.group_types.specs.Commit.{Commit, CommitReply, CommitStep, Commitment, TopicCommitments}
use Rattle.group_types.specs.Laws.{GroupEvent, OfHeartbeat, OfTick, OfCommit, IsGroupRun}

-- what was answered with no error is committed
abbrev pub if_no_error : Code → Committed → Option Committed
if_no_error NoError committed = Some committed
if_no_error UnknownTopicOrPartition committed = None
if_no_error OffsetMetadataTooLarge committed = None
if_no_error CoordinatorNotAvailable committed = None
if_no_error UnknownMemberId committed = None
if_no_error InvalidRequest committed = None
if_no_error GroupIdNotFound committed = None
if_no_error GroupMaxSizeReached committed = None
if_no_error FencedMemberEpoch committed = None
if_no_error UnreleasedInstanceId committed = None
if_no_error UnsupportedAssignor committed = None
if_no_error StaleMemberEpoch committed = None

-- of a topic's commitments and their codes, the last one for the index that was answered with no error
abbrev pub last_of_topic : ℤ → List Commitment → List (ℤ × Code) → Option Committed
last_of_topic index [] codes = None
last_of_topic index (x ∷ xs) [] = None
last_of_topic index (x ∷ xs) (code ∷ codes) =
    option_or (last_of_topic index xs codes) (if int_eq x.index index then if_no_error code.1 x.committed else None)

-- of a commit and its reply, the last one for the place
abbrev pub last_of_topics : Text → ℤ → List TopicCommitments → CommitReply → Option Committed
last_of_topics name index [] reply = None
last_of_topics name index (t ∷ ts) [] = None
last_of_topics name index (t ∷ ts) (codes ∷ reply) =
    option_or (last_of_topics name index ts reply) (if bytes_eq t.name name then last_of_topic index t.partitions codes.1 else None)

-- Of all events, the last one for the place: heartbeats and ticks commit nothing.
abbrev pub last_committed : Text → ℤ → List GroupEvent → Option Committed
last_committed name index [] = None
last_committed name index (OfHeartbeat a answer ∷ events) = last_committed name index events
last_committed name index (OfTick moment ∷ events) = last_committed name index events
last_committed name index (OfCommit c image reply ∷ events) =
    option_or (last_committed name index events) (last_of_topics name index c.topics reply)

-- Whatever comes to a group, and whoever joins, leaves, expires or takes over: the offset of a place is the last one that
-- was committed for it since and answered with no error, and else the one that was there.
abbrev pub OffsetsAreTheLast : Type 0
OffsetsAreTheLast =
    (events : List GroupEvent) (g new : Group) (name : Text) (index : ℤ)
    → IsGroupRun g events new
    → finite.get new.offsets (name, index) ≡ option_or (last_committed name index events) (finite.get g.offsets (name, index))

-- A commit is judged by the members and the node's image, and not by the group's view.
abbrev pub CommitsLookAtTheImage : Type 0
CommitsLookAtTheImage =
    (g : Group) (c : Commit) (image view : Topics) (reply : CommitReply) (new : Group)
    → CommitStep g c image reply new → CommitStep (record g { view = view }) c image reply (record new { view = view })
