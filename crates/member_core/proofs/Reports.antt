-- What the bytes of a reply tell.
use Rattle.std.proofs.Common.{◌≡◌, ℕ, zero, suc, ℤ, pos, negsuc, Bool, true, false, List, Option, Some, None, Result, Ok, Err, IfOk, MatchOption, if◌then◌else◌, refl, sym, ap, ◌∙◌}
use Rattle.std.specs.Option.{option_map}
use Rattle.std.specs.Ordering.{int_eq}
use Rattle.std.specs.Cmp.{signed_Decides}
use Rattle.group_types.specs.Text.{Text}
use Rattle.group_types.specs.Partition.{Partitions}
use Rattle.group_types.proofs.Lookups.{some_is, not_none}
use Rattle.kip_msgs.specs.declared.api.Api.TheVariants.{Heartbeat}
use Rattle.kip_msgs.specs.Values.{ResponseHeaderValue, HeartbeatReplyValue, ReplyValue, heartbeat_reply, commit_reply, reply_api}
use Rattle.kip_msgs.specs.Spelling.{SpellsReply}
use Rattle.kip_msgs.proofs.ReplyLaws.{spells_read}
use Rattle.member_core.specs.Taking.{Meaning, MeansSuccess, MeansFenced, MeansRetry, MeansEnd, meaning_of, News, news_by, news_of, Tells}
use Rattle.member_core.specs.Outcomes.{IsReport, TellsNothing, news_value, news_told, code_in, meaning_behind}
use Rattle.member_core.specs.declared.news.Report.{Report}

-- the news are those of the code's meaning
behind : (m : Meaning) (id : Option Text) (epoch : ℤ) (assignment : Option Partitions) (news : News) → news_by m id epoch assignment ≡ Some news → m ≡ meaning_behind news
behind MeansSuccess (Some id) (pos (suc epoch)) assignment news is = ap meaning_behind (some_is _ news is)
behind MeansSuccess (Some id) (pos zero) assignment news is = absurd (not_none news is)
behind MeansSuccess (Some id) (negsuc n) assignment news is = absurd (not_none news is)
behind MeansSuccess None epoch assignment news is = absurd (not_none news is)
behind MeansFenced id epoch assignment news is = ap meaning_behind (some_is _ news is)
behind MeansRetry id epoch assignment news is = ap meaning_behind (some_is _ news is)
behind MeansEnd id epoch assignment news is = ap meaning_behind (some_is _ news is)

told_if : (number : ℕ) (body : List ℕ) (header : ResponseHeaderValue) (reply : HeartbeatReplyValue) (r : Report) (b : Bool)
    → SpellsReply (heartbeat_reply header reply) body → int_eq header.correlation_id (pos number) ≡ b
    → Some (news_value r.news) ≡ (if b then news_of reply else None) → r.code ≡ reply.error_code → IsReport number body r
told_if number body header reply r true spells same news code =
    record {
      tells = record { header = header; reply = reply; spells = spells; answers = (signed_Decides header.correlation_id (pos number)).0 same; tells = sym news };
      code = record { header = header; reply = reply; spells = spells; is = sym code; means = ap meaning_of code ∙ behind _ _ _ _ _ (sym news) };
    }
told_if number body header reply r false spells other news code = absurd (not_none (news_value r.news) (sym news))

is_report : (number : ℕ) (body : List ℕ) (v : ReplyValue) (r : Report) → SpellsReply v body → Some (news_value r.news) ≡ news_told number v → r.code ≡ code_in v → IsReport number body r
is_report number body (heartbeat_reply header reply) r spells news code =
    told_if number body header reply r (int_eq header.correlation_id (pos number)) spells refl news code
is_report number body (commit_reply header reply) r spells news code = absurd (not_none (news_value r.news) (sym news))

-- a body that tells something is read as the reply that tells it
told_again : (number : ℕ) (body : List ℕ) (v : ReplyValue) (news : News) → reply_api v ≡ Heartbeat → SpellsReply v body → Tells number body news → news_told number v ≡ Some news
told_again number body v news of_api spells t =
    let same : Ok v ≡ Ok (heartbeat_reply t.header t.reply) = sym (spells_read Heartbeat body v of_api spells) ∙ spells_read Heartbeat body (heartbeat_reply t.header t.reply) refl t.spells in
    let is : v ≡ heartbeat_reply t.header t.reply = cc in
    ap (news_told number) is
    ∙ ap (λ b. if b then news_of t.reply else None) ((signed_Decides t.header.correlation_id (pos number)).1 t.answers)
    ∙ t.tells

-- what is made of the reply that a body is, is what the body tells
pub is_told : (number : ℕ) (body : List ℕ) (v : ReplyValue) (told : Option Report) → reply_api v ≡ Heartbeat → SpellsReply v body
    → option_map (λ r. news_value r.news) told ≡ news_told number v → MatchOption told (Unit {0}) (λ r. r.code ≡ code_in v)
    → MatchOption told (TellsNothing number body) (λ r. IsReport number body r)
is_told number body v None of_api spells news code = λ other t. not_none other (news ∙ told_again number body v other of_api spells t)
is_told number body v (Some r) of_api spells news code = is_report number body v r spells news code

-- bytes that aren't read tell nothing
pub unread : (number : ℕ) (body : List ℕ) → ((v : ReplyValue) → reply_api v ≡ Heartbeat → SpellsReply v body → ⊥) → TellsNothing number body
unread number body none news t = none (heartbeat_reply t.header t.reply) refl t.spells

pub is_told_if : {E : Type 0} (number : ℕ) (body : List ℕ) (v : ReplyValue) (r : Result (Option Report) E) → reply_api v ≡ Heartbeat → SpellsReply v body
    → IfOk r (λ told. option_map (λ x. news_value x.news) told ≡ news_told number v) → IfOk r (λ told. MatchOption told (Unit {0}) (λ x. x.code ≡ code_in v))
    → IfOk r (λ told. MatchOption told (TellsNothing number body) (λ x. IsReport number body x))
is_told_if number body v (Ok told) of_api spells news code = is_told number body v told of_api spells news code
is_told_if number body v (Err e) of_api spells news code = tt
