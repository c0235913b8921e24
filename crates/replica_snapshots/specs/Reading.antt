-- Reading what a snapshot is made of from the front of bytes: its value and the bytes behind it, or none. That what is spelled
-- is read is a law of each reader; in what is promised of whole parts only the spelling is named.
use Rattle.std.specs.Prelude.{◌≡◌, ◌≢◌, ℕ, zero, suc, ℤ, pos, negsuc, ◌^◌, nat_lt, Bool, true, false, List, [], ◌∷◌, length, Option, Some, None, Result, Ok, Err, if◌then◌else◌}
use Rattle.std.specs.Int.{w16, w32, w64, from_be_bytes}
use Rattle.std.specs.Ordering.{int_eq}
use Rattle.flex_wire.specs.Reading.{Read, bytes_at, signed_at, uuid_at, array_count_at, mark_at, compact_string_at}
use Rattle.group_types.specs.declared.assignor_name.AssignorName.{AssignorName}
use Rattle.group_types.specs.declared.epoch.Epoch.{Epoch}
use Rattle.group_types.specs.declared.epoch.Epoch.TheVariants.{At, Away}
use Rattle.group_types.specs.declared.partition.Partition.{Partition}
use Rattle.group_types.specs.declared.stamp.Stamp.{Stamp}
use Rattle.group_types.specs.AssignorName.{assignor_named}
use Rattle.group_types.specs.Limits.{LONGEST_METADATA, MOST_TOPIC_PARTITIONS}
use Rattle.group_types.specs.Group.{Committed, Record}
use Rattle.group_types.specs.Owners.{is_index}
use Rattle.group_types.specs.Partition.{Partitions}
use Rattle.group_types.specs.Sets.{nothing, of_list, with_one}
use Rattle.group_types.specs.Text.{Text}
use Rattle.group_types.specs.Topics.{Topics, Names}
use Rattle.topic_meta.specs.Images.{Entry, topics_of, first_fault}
use Rattle.topic_meta.specs.declared.image_fault.ImageFault.{ImageFault}
use Rattle.replica_snapshots.specs.declared.numbers.Numbers.{Numbers}
use Rattle.replica_snapshots.specs.Nodes.{VERSION, HeadValue, head_with}
use Rattle.replica_snapshots.specs.Places.{PLACE_VERSION, PlaceValue}
use Rattle.replica_snapshots.specs.declared.fault.SnapshotFault.{SnapshotFault}
use Rattle.replica_snapshots.specs.declared.fault.SnapshotFault.TheVariants.{NoMemory}

-- What reading gives: a value and the bytes behind it, or none.
abbrev pub Found : Type 0 → Type 0
Found V = Option (V × List ℕ)

-- What is read, and then what is read behind it.
infixl 10 ◌>>=◌
abbrev pub ◌>>=◌ : {A B : Type 0} → Option A → (A → Option B) → Option B
None >>= f = None
(Some x) >>= f = f x

-- What a function returned, seen by view, and the bytes it left are what reading gives, unless memory ran out.
abbrev pub Gives : {X V : Type 0} → (X → V) → Result X SnapshotFault → List ℕ → Found V → Type 0
Gives view (Ok x) left found = found ≡ Some (view x, left)
Gives view (Err fault) left found = fault ≢ NoMemory → found ≡ None

-- A field of the wire's.
abbrev pub wire : {V : Type 0} → Read V → Found V
wire (Ok x) = Some x
wire (Err fault) = None

-- ---- fields

-- An unsigned number: eight bytes, the highest first.
unfoldable pub number_at : List ℕ → Found ℕ
number_at bytes = wire (bytes_at 8 bytes) >>= λ front. Some (from_be_bytes w64 front.0, front.1)

abbrev pub int16_at : List ℕ → Found ℤ
int16_at bytes = wire (signed_at w16 bytes)

abbrev pub int32_at : List ℕ → Found ℤ
int32_at bytes = wire (signed_at w32 bytes)

abbrev pub int64_at : List ℕ → Found ℤ
int64_at bytes = wire (signed_at w64 bytes)

abbrev pub id_at : List ℕ → Found (List ℕ)
id_at bytes = wire (uuid_at bytes)

abbrev pub count_at : List ℕ → Found ℕ
count_at bytes = wire (array_count_at bytes)

abbrev pub present_at : List ℕ → Found Bool
present_at bytes = wire (mark_at bytes)

abbrev pub text_at : List ℕ → Found Text
text_at bytes = wire (compact_string_at bytes)

-- A number that isn't below 0.
abbrev pub natural : ℤ → List ℕ → Found ℕ
natural (pos n) rest = Some (n, rest)
natural (negsuc n) rest = None

-- ---- what is made of fields

-- So many elements, one behind the other.
unfoldable pub each_at : {V : Type 0} → (List ℕ → Found V) → ℕ → List ℕ → Found (List V)
each_at read zero bytes = Some ([], bytes)
each_at read (suc more) bytes = read bytes >>= λ first. each_at read more first.1 >>= λ others. Some (first.0 ∷ others.0, others.1)

-- An array: how many elements, and the elements.
abbrev pub list_at : {V : Type 0} → (List ℕ → Found V) → List ℕ → Found (List V)
list_at read bytes = count_at bytes >>= λ count. each_at read count.0 count.1

-- A topic, as it comes in.
unfoldable pub entry_at : List ℕ → Found Entry
entry_at bytes =
    text_at bytes >>= λ name. id_at name.1 >>= λ id. int32_at id.1 >>= λ count.
    Some (record { name = name.0; id = id.0; count = count.0 }, count.1)

-- A value where there is no fault.
abbrev pub unless : {V : Type 0} → Option ImageFault → V → Option V
unless None v = Some v
unless (Some fault) v = None

-- The topics of an image, where they make one.
unfoldable pub image_at : List ℕ → Found Topics
image_at bytes = list_at entry_at bytes >>= λ all. unless (first_fault all.0) (topics_of all.0, all.1)

-- A value that may be missing, behind its mark.
abbrev pub marked_at : {V : Type 0} → (List ℕ → Found V) → Bool → List ℕ → Found (Option V)
marked_at read false bytes = Some (None, bytes)
marked_at read true bytes = read bytes >>= λ v. Some (Some v.0, v.1)

unfoldable pub optional_at : {V : Type 0} → (List ℕ → Found V) → List ℕ → Found (Option V)
optional_at read bytes = present_at bytes >>= λ there. marked_at read there.0 there.1

abbrev pub natural_at : (List ℕ → Found ℤ) → List ℕ → Found ℕ
natural_at read bytes = read bytes >>= λ number. natural number.0 number.1

-- The number of an epoch.
unfoldable pub epoch_at : List ℕ → Found ℕ
epoch_at bytes = natural_at int32_at bytes

-- The epoch of a member, which is missing where the member is away.
abbrev pub marked_epoch_at : Bool → List ℕ → Found Epoch
marked_epoch_at false bytes = Some (Away, bytes)
marked_epoch_at true bytes = epoch_at bytes >>= λ epoch. Some (At epoch.0, epoch.1)

unfoldable pub member_epoch_at : List ℕ → Found Epoch
member_epoch_at bytes = present_at bytes >>= λ there. marked_epoch_at there.0 there.1

-- A time of 32 bits.
unfoldable pub timeout_at : List ℕ → Found ℕ
timeout_at bytes = number_at bytes >>= λ n. if nat_lt n.0 (2 ^ 32) then Some n else None

unfoldable pub stamp_at : List ℕ → Found Stamp
stamp_at bytes =
    number_at bytes >>= λ connection. number_at connection.1 >>= λ frame.
    Some (record { connection = connection.0; frame = frame.0 }, frame.1)

-- An index that a partition of a topic can have.
abbrev pub index_of : ℤ → List ℕ → Found ℤ
index_of index rest = if is_index index MOST_TOPIC_PARTITIONS then Some (index, rest) else None

unfoldable pub index_at : List ℕ → Found ℤ
index_at bytes = int32_at bytes >>= λ number. index_of number.0 number.1

unfoldable pub partition_at : List ℕ → Found Partition
partition_at bytes =
    id_at bytes >>= λ topic. index_at topic.1 >>= λ index. Some (record { topic = topic.0; index = index.0 }, index.1)

unfoldable pub partitions_at : List ℕ → Found Partitions
partitions_at bytes = list_at partition_at bytes >>= λ all. Some (of_list all.0, all.1)

-- So many names, put into a set one after the other.
unfoldable pub names_into : ℕ → Names → List ℕ → Found Names
names_into zero names bytes = Some (names, bytes)
names_into (suc more) names bytes = text_at bytes >>= λ name. names_into more (with_one names name.0) name.1

unfoldable pub names_at : List ℕ → Found Names
names_at bytes = count_at bytes >>= λ count. names_into count.0 nothing count.1

-- An assignor, where the text names one.
abbrev pub found_in_front : {V : Type 0} → Option V → List ℕ → Found V
found_in_front None rest = None
found_in_front (Some v) rest = Some (v, rest)

unfoldable pub assignor_at : List ℕ → Found AssignorName
assignor_at bytes = text_at bytes >>= λ text. found_in_front (assignor_named text.0) text.1

-- ---- the parts of a group

-- The numbers of a group.
unfoldable pub numbers_at : List ℕ → Found Numbers
numbers_at bytes =
    number_at bytes >>= λ salt. epoch_at salt.1 >>= λ epoch. epoch_at epoch.1 >>= λ target_epoch.
    number_at target_epoch.1 >>= λ clock. number_at clock.1 >>= λ ids_made.
    Some (record { salt = salt.0; epoch = epoch.0; target_epoch = target_epoch.0; clock = clock.0; ids_made = ids_made.0 }, ids_made.1)

-- A former member, with its last stamp.
unfoldable pub former_at : List ℕ → Found (Text × Stamp)
former_at bytes = text_at bytes >>= λ id. stamp_at id.1 >>= λ stamp. Some ((id.0, stamp.0), stamp.1)

-- A member's record.
unfoldable pub record_at : List ℕ → Found Record
record_at bytes =
    optional_at text_at bytes >>= λ instance. optional_at text_at instance.1 >>= λ rack.
    names_at rack.1 >>= λ names. optional_at assignor_at names.1 >>= λ assignor. timeout_at assignor.1 >>= λ timeout.
    member_epoch_at timeout.1 >>= λ epoch. epoch_at epoch.1 >>= λ previous. stamp_at previous.1 >>= λ stamp.
    optional_at partitions_at stamp.1 >>= λ sent. number_at sent.1 >>= λ session. optional_at number_at session.1 >>= λ release.
    Some (
      record {
        instance = instance.0;
        rack = rack.0;
        names = names.0;
        assignor = assignor.0;
        rebalance_timeout = timeout.0;
        epoch = epoch.0;
        previous_epoch = previous.0;
        stamp = stamp.0;
        sent = sent.0;
        session_deadline = session.0;
        release_deadline = release.0;
      },
      release.1,
    )

-- A partition that a member may read, and the epoch of the target since which it may.
unfoldable pub grant_at : List ℕ → Found (Partition × ℕ)
grant_at bytes = partition_at bytes >>= λ p. epoch_at p.1 >>= λ since. Some ((p.0, since.0), since.1)

-- The metadata of a commit, which are no longer than they may be.
abbrev pub short_metadata : Option Text → List ℕ → Found (Option Text)
short_metadata None rest = Some (None, rest)
short_metadata (Some text) rest = if nat_lt LONGEST_METADATA (length text) then None else Some (Some text, rest)

unfoldable pub metadata_at : List ℕ → Found (Option Text)
metadata_at bytes = optional_at text_at bytes >>= λ metadata. short_metadata metadata.0 metadata.1

-- What is committed.
unfoldable pub committed_at : List ℕ → Found Committed
committed_at bytes =
    int64_at bytes >>= λ offset. int32_at offset.1 >>= λ leader_epoch. metadata_at leader_epoch.1 >>= λ metadata.
    Some (record { offset = offset.0; leader_epoch = leader_epoch.0; metadata = metadata.0 }, metadata.1)

-- ---- heads and places

-- The bytes behind a version, where it is the one that is meant.
abbrev pub behind_version : ℤ → List ℕ → Option (List ℕ)
behind_version meant bytes = int16_at bytes >>= λ version. if int_eq version.0 meant then Some version.1 else None

unfoldable pub head_at : List ℕ → Found HeadValue
head_at bytes =
    behind_version VERSION bytes >>= λ front. number_at front >>= λ salt. image_at salt.1 >>= λ image.
    count_at image.1 >>= λ groups. Some (head_with salt.0 image.0 groups.0, groups.1)

unfoldable pub place_at : List ℕ → Found PlaceValue
place_at bytes =
    behind_version PLACE_VERSION bytes >>= λ front. number_at front >>= λ applied.
    natural_at int32_at applied.1 >>= λ leadership. natural_at int64_at leadership.1 >>= λ moment.
    Some (record { applied = applied.0; leadership = leadership.0; moment = moment.0 }, moment.1)
