-- What a member makes of the reply to its request (KIP-848, "ConsumerGroupHeartbeatResponse").
use Rattle.std.specs.Prelude.{◌≡◌, ℕ, zero, suc, ℤ, pos, negsuc, Bool, true, false, if◌then◌else◌, List, [], ◌∷◌, Option, Some, None}
use Rattle.std.specs.List.{list_any}
use Rattle.std.specs.Option.{option_map}
use Rattle.std.specs.Ordering.{int_eq}
use Rattle.group_types.specs.Text.{Text}
use Rattle.group_types.specs.Sets.{nothing, union, of_list}
use Rattle.group_types.specs.Partition.{Partitions}
use Rattle.kip_msgs.specs.Values.{ResponseHeaderValue, AssignmentValue, HeartbeatReplyValue, heartbeat_reply}
use Rattle.kip_msgs.specs.Spelling.{SpellsReply}
use Rattle.member_core.specs.Listing.{all_partitions_of}
use Rattle.member_core.specs.Client.{Outside, Inside, Gone, Client}

-- what an error code means to a member
pub data Meaning : Type 0 where
  MeansSuccess : Meaning
  MeansFenced : Meaning  -- it isn't a member any more
  MeansRetry : Meaning  -- nothing has happened, and it may ask again
  MeansEnd : Meaning

-- UNKNOWN_MEMBER_ID and FENCED_MEMBER_EPOCH fence it. COORDINATOR_LOAD_IN_PROGRESS, COORDINATOR_NOT_AVAILABLE,
-- NOT_COORDINATOR and UNRELEASED_INSTANCE_ID are for another try (that the last one is, and that all other codes are
-- the end, is ours).
abbrev pub meaning_of : ℤ → Meaning
meaning_of code =
    if int_eq code (pos 0) then MeansSuccess
    else if list_any (int_eq code) (pos 25 ∷ pos 110 ∷ []) then MeansFenced
    else if list_any (int_eq code) (pos 14 ∷ pos 15 ∷ pos 16 ∷ pos 111 ∷ []) then MeansRetry
    else MeansEnd

-- what a reply tells
pub data News : Type 0 where
  Accepts : Text → ℕ → Option Partitions → News  -- the id, the member epoch, and the assignment
  Fences : News
  Retries : News
  Ends : News

-- a reply of success tells nothing without an id, or below member epoch 1 (ours)
abbrev pub news_by : Meaning → Option Text → ℤ → Option Partitions → Option News
news_by MeansSuccess (Some m) (pos (suc epoch)) assignment = Some (Accepts m (suc epoch) assignment)
news_by MeansSuccess (Some m) (pos zero) assignment = None
news_by MeansSuccess (Some m) (negsuc n) assignment = None
news_by MeansSuccess None epoch assignment = None
news_by MeansFenced m epoch assignment = Some Fences
news_by MeansRetry m epoch assignment = Some Retries
news_by MeansEnd m epoch assignment = Some Ends

-- the set that an assignment names
abbrev pub assigned : AssignmentValue → Partitions
assigned v = of_list (all_partitions_of v.topic_partitions)

abbrev pub news_of : HeartbeatReplyValue → Option News
news_of v = news_by (meaning_of v.error_code) v.member_id v.member_epoch (option_map assigned v.assignment)

-- an assignment is what the member is shown, and is added to what it owns
abbrev pub showing : Client → Option Partitions → Client
showing c None = c
showing c (Some set) = record c { shown = set; own = union c.own set }

abbrev pub after_news : Client → News → Client
after_news c (Accepts m epoch assignment) =
    record (showing c assignment) { place = Inside; id = Some m; epoch = epoch; waits = false }
after_news c Fences = record c { place = Outside; epoch = 0; own = nothing; shown = nothing; waits = false }
after_news c Retries = record c { waits = false; says_all = true }
after_news c Ends = record c { place = Gone; own = nothing; waits = false }

-- the bytes are a reply to the request with the number, and this is what it tells
pub record Tells (number : ℕ) (body : List ℕ) (news : News) : Type 0 where
  pub header : ResponseHeaderValue
  pub reply : HeartbeatReplyValue
  pub spells : SpellsReply (heartbeat_reply header reply) body
  pub answers : header.correlation_id ≡ pos number
  pub tells : news_of reply ≡ Some news

-- A member that waits takes the reply to its latest request, once. Whatever else it is given leaves it as it is.
abbrev pub TakesIf : Bool → Client → List ℕ → Bool → Client → Type 0
TakesIf false c body taken new = (taken ≡ false) × (new ≡ c)
TakesIf true c body true new = (news : News) × Tells c.number body news × (new ≡ after_news c news)
TakesIf true c body false new = ((news : News) → ¬ Tells c.number body news) × (new ≡ c)

abbrev pub Takes : Client → List ℕ → Bool → Client → Type 0
Takes c body taken new = TakesIf c.waits c body taken new
