-- What is printed for an act, and of where the clients stand. The forms are this program's own.
use Rattle.std.specs.Prelude.{◌≡◌, ℕ, List, [], ◌∷◌, ◌++◌, Option, Some, None, codes, decimal, map, unwrap_or, Ok, Err, Result}
use Rattle.std.specs.Fmt.{signed_decimal}
use Rattle.std.specs.List.{flat_map, zip}
use Rattle.uuid.specs.Text.{hyphenated_text, lower}
use Rattle.kip_msgs.specs.Values.{ResponseHeaderValue, AssignmentValue, HeartbeatReplyValue, CommitReplyPartitionValue, CommitReplyTopicValue, CommitReplyValue, commit_reply}
use Rattle.kip_msgs.specs.Spelling.{SpellsReply}
use Rattle.group_types.specs.declared.partition.Partition.{Partition}
use Rattle.group_types.specs.Text.{Text}
use Rattle.group_types.specs.Sets.{in_order}
use Rattle.group_types.specs.Partition.{Partitions}
use Rattle.member_core.specs.Client.{Client, State, IsOutside, IsSteady, IsReleasing, IsGone, state_of}
use Rattle.member_core.specs.Taking.{assigned}
use Rattle.world_sim.specs.declared.shown.Shown.{Shown}
use Rattle.world_sim.specs.declared.shown.Shown.TheVariants as shows
use Rattle.world_sim.specs.declared.fault.WorldFault.{WorldFault}
use Rattle.world_sim.specs.Faults.{world_fault_number}
use Rattle.world_sim.specs.Standing.{state_value}
use Rattle.world_sim.specs.Viewing.{IsReplyBody}
use Rattle.world_sim.specs.World.{World}
use Rattle.scenario_lines.specs.declared.verb.Verb.{Verb}
use Rattle.scenario_lines.specs.declared.verb.Verb.TheVariants as verbs
use Rattle.scenario_text.specs.Lines.{fed}
use Rattle.scenario_text.specs.Reports.{line}

-- ---- sets of partitions

-- a partition is its topic's hyphenated id, a slash and its index
abbrev pub partition_word : Partition → List ℕ
partition_word p = hyphenated_text lower p.topic ++ codes "/" ++ signed_decimal p.index

abbrev pub partition_behind_comma : Partition → List ℕ
partition_behind_comma p = codes "," ++ partition_word p

-- partitions, with a comma between each two, or `-` where there are none
abbrev pub partitions_word : List Partition → List ℕ
partitions_word [] = codes "-"
partitions_word (first ∷ others) = partition_word first ++ flat_map partition_behind_comma others

-- the partitions of a set, in order
abbrev pub set_word : Partitions → List ℕ
set_word set = partitions_word (in_order set)

-- the set that an assignment names, or `null` where there is no assignment
abbrev pub assignment_word : Option AssignmentValue → List ℕ
assignment_word None = codes "null"
assignment_word (Some assignment) = set_word (assigned assignment)

-- ---- replies

-- the number of a reply to a heartbeat, its code, the member's epoch and the assignment
abbrev pub reply_line : ℕ → HeartbeatReplyValue → List ℕ
reply_line number reply =
    line (codes "reply")
    (decimal number ∷ codes "code" ∷ signed_decimal reply.error_code ∷ codes "epoch" ∷ signed_decimal reply.member_epoch
    ∷ codes "shows" ∷ assignment_word reply.assignment ∷ [])

-- the line of the reply that is in the pool under the number, by what its bytes spell
pub record IsReplyText (w : World) (number : ℕ) (text : List ℕ) : Type 0 where
  pub body : List ℕ
  pub is_body : IsReplyBody w number body
  pub is_line : text ≡ fed (reply_line number is_body.said)

abbrev pub code_word : CommitReplyPartitionValue → List ℕ
code_word partition = signed_decimal partition.error_code

abbrev pub code_words : CommitReplyTopicValue → List (List ℕ)
code_words topic = map code_word topic.partitions

-- the codes of a reply to a commit: of each partition of each topic, in the reply's order
abbrev pub codes_line : CommitReplyValue → List ℕ
codes_line reply = line (codes "code") (flat_map code_words reply.topics)

-- the line of a reply to a commit, by what its bytes spell
pub record IsCodesText (body text : List ℕ) : Type 0 where
  pub header : ResponseHeaderValue
  pub said : CommitReplyValue
  pub spells : SpellsReply (commit_reply header said) body
  pub is_line : text ≡ fed (codes_line said)

-- ---- acts

abbrev pub state_word : State → List ℕ
state_word IsOutside = codes "outside"
state_word IsSteady = codes "steady"
state_word IsReleasing = codes "releasing"
state_word IsGone = codes "gone"

-- what is printed where there is nothing else to show
abbrev pub done_word : Verb → List ℕ
done_word verbs.Settle = codes "settled"
done_word verbs.Image = codes "image"
done_word verb = codes "clock"

-- what an act shows, after which the world is this
abbrev pub IsShownText : Verb → World → Shown → List ℕ → Type 0
IsShownText verb w (shows.Sent request) text = text ≡ fed (line (codes "sent") (decimal request ∷ []))
IsShownText verb w (shows.Replied reply) text = IsReplyText w reply text
IsShownText verb w shows.Closed text = text ≡ fed (codes "closed")
IsShownText verb w (shows.Is state) text = text ≡ fed (state_word (state_value state))
IsShownText verb w shows.Ignored text = text ≡ fed (codes "ignored")
IsShownText verb w (shows.Committed commit) text = text ≡ fed (line (codes "commit") (decimal commit ∷ []))
IsShownText verb w (shows.Answered reply) text = IsCodesText reply text
IsShownText verb w (shows.Removed members) text = text ≡ fed (line (codes "removed") (decimal members ∷ []))
IsShownText verb w shows.Done text = text ≡ fed (done_word verb)

-- the number of a fault
abbrev pub refusal : WorldFault → List ℕ
refusal fault = fed (line (codes "refused") (decimal (world_fault_number fault) ∷ []))

abbrev pub IsAnswerText : Verb → World → Result Shown WorldFault → List ℕ → Type 0
IsAnswerText verb w (Ok shown) text = IsShownText verb w shown text
IsAnswerText verb w (Err fault) text = text ≡ refusal fault

abbrev pub settled_text : Result (Unit {0}) WorldFault → List ℕ
settled_text (Ok done) = fed (codes "settled")
settled_text (Err fault) = refusal fault

-- ---- where the clients stand

-- a client's state, its id or `-`, the member epoch that it knows and the partitions that it reads
abbrev pub standing_words : State → Option Text → ℕ → Partitions → List (List ℕ)
standing_words state id epoch own =
    state_word state ∷ unwrap_or id (codes "-") ∷ decimal epoch ∷ set_word own ∷ []

-- the line of a client, behind its name
abbrev pub standing_text : Text × Client → List ℕ
standing_text e = fed (line e.0 (standing_words (state_of e.1) e.1.id e.1.epoch e.1.own))

-- a line for each client, in the order of their numbers
abbrev pub standings_text : List Text → List Client → List ℕ
standings_text names clients = flat_map standing_text (zip names clients)
