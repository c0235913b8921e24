-- The lines of `coord frame`. Their forms are this program's own; the fields stand in the order of the messages (Kafka
-- protocol guide, "Request Header v2", "OffsetCommit Request v9"; KIP-848, "ConsumerGroupHeartbeatRequest").
use Rattle.std.specs.Prelude.{◌≡◌, ◌⊎◌, ℕ, ℤ, min, List, [], ◌∷◌, ◌++◌, Option, Some, None, codes, map, decimal}
use Rattle.std.specs.List.{flat_map}
use Rattle.std.specs.Fmt.{signed_decimal}
use Rattle.hex.specs.Hex.{encode_lower}
use Rattle.uuid.specs.Text.{hyphenated_text, lower}
use Rattle.flex_wire.specs.Faults.{number_of}
use Rattle.kip_msgs.specs.declared.fault.MsgFault.{MsgFault}
use Rattle.kip_msgs.specs.declared.fault.MsgFault.TheVariants.{Wire, UnknownApi, UnknownVersion, LeftOver, NoMemory}
use Rattle.kip_msgs.specs.Faults.{fault_number}
use Rattle.kip_msgs.specs.Values.{RequestHeaderValue, TopicPartitionsValue, HeartbeatRequestValue, CommitRequestPartitionValue, CommitRequestTopicValue, CommitRequestValue, RequestValue, heartbeat_request, commit_request}
use Rattle.kip_msgs.specs.Spelling.{SpellsRequest}
use Rattle.kip_msgs.specs.Heads.{HasUnknownKey, HasUnknownVersion, HasFieldFault, HasLeftOver}
use Rattle.kip_msgs.specs.TagCount.{tags_in}
use Rattle.group_types.specs.Frames.{IsFrame}
use Rattle.scenario_text.specs.Lines.{fed}
use Rattle.scenario_text.specs.FrameLines.{IsFrameLine}

-- ---- words

-- a text is `x` and its bytes in hex
abbrev pub text_word : List ℕ → List ℕ
text_word text = codes "x" ++ encode_lower text

-- a text that may be null
abbrev pub nullable_word : Option (List ℕ) → List ℕ
nullable_word None = codes "null"
nullable_word (Some text) = text_word text

abbrev pub behind_comma : ℤ → List ℕ
behind_comma index = codes "," ++ signed_decimal index

-- indexes, with a comma between each two
abbrev pub commas : List ℤ → List ℕ
commas [] = []
commas (first ∷ others) = signed_decimal first ++ flat_map behind_comma others

-- the partitions of a topic: its hyphenated id, a colon, and the indexes
abbrev pub topic_word : TopicPartitionsValue → List ℕ
topic_word topic = hyphenated_text lower topic.topic_id ++ codes ":" ++ commas topic.partitions

-- words, each behind a space
abbrev pub spaced : List (List ℕ) → List ℕ
spaced words = flat_map (λ word. codes " " ++ word) words

-- a line is its key and its words
abbrev pub line : List ℕ → List (List ℕ) → List ℕ
line key words = key ++ spaced words

-- the words of a list that may be null
abbrev pub nullable_words : {X : Type 0} → (X → List ℕ) → Option (List X) → List (List ℕ)
nullable_words word None = codes "null" ∷ []
nullable_words word (Some elements) = map word elements

-- ---- the lines of a request

abbrev pub head_line : List ℕ → RequestHeaderValue → List ℕ
head_line name header =
    line name (codes "correlation" ∷ signed_decimal header.correlation_id ∷ codes "client" ∷ nullable_word header.client_id ∷ [])

-- who the member is
abbrev pub member_lines : RequestHeaderValue → HeartbeatRequestValue → List (List ℕ)
member_lines header v =
    head_line (codes "heartbeat") header
    ∷ line (codes "group") (text_word v.group_id ∷ [])
    ∷ line (codes "member") (text_word v.member_id ∷ [])
    ∷ line (codes "epoch") (signed_decimal v.member_epoch ∷ [])
    ∷ line (codes "instance") (nullable_word v.instance_id ∷ [])
    ∷ line (codes "rack") (nullable_word v.rack_id ∷ [])
    ∷ []

-- what it wants and owns
abbrev pub subscription_lines : HeartbeatRequestValue → List (List ℕ)
subscription_lines v =
    line (codes "timeout") (signed_decimal v.rebalance_timeout_ms ∷ [])
    ∷ line (codes "topics") (nullable_words text_word v.subscribed_topic_names)
    ∷ line (codes "assignor") (nullable_word v.server_assignor ∷ [])
    ∷ line (codes "owned") (nullable_words topic_word v.topic_partitions)
    ∷ []

abbrev pub heartbeat_lines : RequestHeaderValue → HeartbeatRequestValue → List (List ℕ)
heartbeat_lines header v = member_lines header v ++ subscription_lines v

-- the line of one partition's offset
abbrev pub part_line : List ℕ → CommitRequestPartitionValue → List ℕ
part_line name p =
    line (codes "part")
    (text_word name ∷ signed_decimal p.partition_index ∷ signed_decimal p.committed_offset
    ∷ signed_decimal p.committed_leader_epoch ∷ nullable_word p.committed_metadata ∷ [])

abbrev pub part_lines : CommitRequestTopicValue → List (List ℕ)
part_lines topic = map (part_line topic.name) topic.partitions

abbrev pub commit_lines : RequestHeaderValue → CommitRequestValue → List (List ℕ)
commit_lines header v =
    head_line (codes "commit") header
    ∷ line (codes "group") (text_word v.group_id ∷ [])
    ∷ line (codes "epoch") (signed_decimal v.generation_id_or_member_epoch ∷ [])
    ∷ line (codes "member") (text_word v.member_id ∷ [])
    ∷ line (codes "instance") (nullable_word v.group_instance_id ∷ [])
    ∷ flat_map part_lines v.topics

abbrev pub message_lines : RequestValue → List (List ℕ)
message_lines (heartbeat_request header v) = heartbeat_lines header v
message_lines (commit_request header v) = commit_lines header v

-- how many tagged fields the whole body has, or the most that can be said
abbrev pub tags_line : RequestValue → List ℕ
tags_line v = line (codes "tags") (decimal (min (tags_in v) 18446744073709551615) ∷ [])

abbrev pub request_lines : RequestValue → List (List ℕ)
request_lines v = message_lines v ++ tags_line v ∷ []

-- ---- the line of a fault

-- the number of a fault, and behind it that of a field's fault
abbrev pub fault_words : MsgFault → List (List ℕ)
fault_words (Wire wire) = decimal (fault_number (Wire wire)) ∷ decimal (number_of wire) ∷ []
fault_words UnknownApi = decimal (fault_number UnknownApi) ∷ []
fault_words UnknownVersion = decimal (fault_number UnknownVersion) ∷ []
fault_words LeftOver = decimal (fault_number LeftOver) ∷ []
fault_words NoMemory = decimal (fault_number NoMemory) ∷ []

abbrev pub fault_line : MsgFault → List ℕ
fault_line fault = line (codes "fault") (fault_words fault)

-- Why a body is no request: its key comes before its version, the version before its fields, and what is left over last.
-- Of its fields the first that has a fault counts.
abbrev pub HasFault : MsgFault → List ℕ → Type 0
HasFault UnknownApi body = HasUnknownKey body
HasFault UnknownVersion body = HasUnknownVersion body
HasFault LeftOver body = HasLeftOver body
HasFault (Wire fault) body = HasFieldFault fault body
HasFault NoMemory body = ⊥

-- ---- what is printed

-- for a body: the request that it is, or why it is none
abbrev pub IsBodyReport : List ℕ → List (List ℕ) → Type 0
IsBodyReport body lines =
    ((v : RequestValue) × SpellsRequest v body × (lines ≡ request_lines v))
    ⊎ ((fault : MsgFault) × HasFault fault body × (lines ≡ fault_line fault ∷ []))

-- for the bytes of a line: its body's report, where they are a frame
abbrev pub IsReport : List ℕ → List (List ℕ) → Type 0
IsReport bytes lines =
    ((body : List ℕ) × IsFrame body bytes × IsBodyReport body lines)
    ⊎ (((body : List ℕ) → ¬ IsFrame body bytes) × (lines ≡ line (codes "fault") (codes "size" ∷ []) ∷ []))

-- bytes have a report, and its lines were put
pub record PutsReport (bytes before after : List ℕ) : Type 0 where
  pub lines : List (List ℕ)
  pub report : IsReport bytes lines
  pub put : after ≡ before ++ flat_map fed lines

-- the report of the bytes that a line spells is printed
pub record PrintsReport (input before after : List ℕ) : Type 0 where
  pub bytes : List ℕ
  pub is_frame_line : IsFrameLine input bytes
  pub puts : PutsReport bytes before after

-- what a line does, whatever state there is: it prints the report
abbrev pub DoesFrameLine : {State : Type 0} → State → List ℕ → State → List ℕ → Type 0
DoesFrameLine old input new text = PrintsReport input [] text
