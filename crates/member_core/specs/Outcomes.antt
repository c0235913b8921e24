-- What a member that was given a reply is afterwards.
use Rattle.std.specs.Prelude.{◌≡◌, ℕ, ℤ, pos, List, Option, Some, None, if◌then◌else◌}
use Rattle.std.specs.Ordering.{int_eq}
use Rattle.group_types.specs.Text.{Text}
use Rattle.group_types.specs.Partition.{Partitions}
use Rattle.kip_msgs.specs.Values.{ResponseHeaderValue, HeartbeatReplyValue, ReplyValue, heartbeat_reply, commit_reply}
use Rattle.kip_msgs.specs.Spelling.{SpellsReply}
use Rattle.member_core.specs.Client.{Client}
use Rattle.member_core.specs.Taking as client
use Rattle.member_core.specs.Taking.{Meaning, MeansSuccess, MeansFenced, MeansRetry, MeansEnd, meaning_of, news_of, News, Tells, after_news}
use Rattle.member_core.specs.declared.meaning.Meaning as code
use Rattle.member_core.specs.declared.meaning.Meaning.TheVariants as meanings
use Rattle.member_core.specs.declared.news.News as told
use Rattle.member_core.specs.declared.news.News.TheVariants.{Accepts, Fences, Retries, Ends}
use Rattle.member_core.specs.declared.acceptance.Acceptance.{Acceptance}
use Rattle.member_core.specs.declared.news.Report.{Report}
use Rattle.member_core.specs.declared.machine.taking.Outcome.{Outcome}
use Rattle.member_core.specs.declared.machine.taking.Outcome.TheVariants.{Accepted, Fenced, Kept, Ended}

abbrev pub meaning_value : code.Meaning → Meaning
meaning_value meanings.Success = MeansSuccess
meaning_value meanings.Fenced = MeansFenced
meaning_value meanings.Retry = MeansRetry
meaning_value meanings.End = MeansEnd

abbrev pub acceptance_news : Acceptance → News
acceptance_news a = client.Accepts a.id a.epoch a.assignment

abbrev pub news_value : told.News → News
news_value (Accepts a) = acceptance_news a
news_value Fences = client.Fences
news_value Retries = client.Retries
news_value Ends = client.Ends

-- the meaning of the code of a reply that tells the news
abbrev pub meaning_behind : News → Meaning
meaning_behind (client.Accepts m epoch assignment) = MeansSuccess
meaning_behind client.Fences = MeansFenced
meaning_behind client.Retries = MeansRetry
meaning_behind client.Ends = MeansEnd

-- the bytes are a reply to a heartbeat with this error code, which means this
pub record HasCode (body : List ℕ) (meaning : Meaning) (code : ℤ) : Type 0 where
  pub header : ResponseHeaderValue
  pub reply : HeartbeatReplyValue
  pub spells : SpellsReply (heartbeat_reply header reply) body
  pub is : reply.error_code ≡ code
  pub means : meaning_of code ≡ meaning

-- what a reply tells as the one to the request with the number
abbrev pub news_told : ℕ → ReplyValue → Option News
news_told number (heartbeat_reply header v) = if int_eq header.correlation_id (pos number) then news_of v else None
news_told number (commit_reply header v) = None

-- the error code of a reply to a heartbeat
abbrev pub code_in : ReplyValue → ℤ
code_in (heartbeat_reply header v) = v.error_code
code_in (commit_reply header v) = pos 0

-- the bytes are no reply to the request with the number
abbrev pub TellsNothing : ℕ → List ℕ → Type 0
TellsNothing number body = (news : News) → ¬ Tells number body news

pub record IsReport (number : ℕ) (body : List ℕ) (r : Report) : Type 0 where
  pub tells : Tells number body (news_value r.news)
  pub code : HasCode body (meaning_behind (news_value r.news)) r.code

-- what became of a member that was given bytes
abbrev pub IsOutcome : Client → List ℕ → Option Outcome → Client → Type 0
IsOutcome c body None new = TellsNothing c.number body × (new ≡ c)
IsOutcome c body (Some Accepted) new =
    (id : Text) × (epoch : ℕ) × (assignment : Option Partitions) × Tells c.number body (client.Accepts id epoch assignment)
    × ((code : ℤ) × HasCode body MeansSuccess code)
    × (new ≡ after_news c (client.Accepts id epoch assignment))
IsOutcome c body (Some Fenced) new =
    Tells c.number body client.Fences × ((code : ℤ) × HasCode body MeansFenced code) × (new ≡ after_news c client.Fences)
IsOutcome c body (Some (Kept code)) new =
    Tells c.number body client.Retries × HasCode body MeansRetry code × (new ≡ after_news c client.Retries)
IsOutcome c body (Some (Ended code)) new =
    Tells c.number body client.Ends × HasCode body MeansEnd code × (new ≡ after_news c client.Ends)
