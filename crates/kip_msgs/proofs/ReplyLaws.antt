-- Replies, all of the body: what is read is spelled so, and what is spelled so is read.
use Rattle.std.proofs.Common.{◌≡◌, ◌≢◌, ℕ, false, List, [], ◌++◌, Result, Ok, Err, refl, sym, ◌∙◌}
use Rattle.std.proofs.lemmas.List.{append-nil}
use Rattle.flex_wire.specs.Laws.{AreBytes}
use Rattle.kip_msgs.specs.declared.api.Api.{Api}
use Rattle.kip_msgs.specs.declared.api.Api.TheVariants.{Heartbeat, Commit}
use Rattle.kip_msgs.specs.declared.fault.MsgFault.{MsgFault}
use Rattle.kip_msgs.specs.declared.fault.MsgFault.TheVariants.{LeftOver}
use Rattle.kip_msgs.specs.Values.{ReplyValue, heartbeat_reply, commit_reply, reply_api}
use Rattle.kip_msgs.specs.Spelling.{reply_body, FitsReply, SpellsReply}
use Rattle.kip_msgs.specs.Heads.{HasLeftOverReply}
use Rattle.kip_msgs.specs.Reading.{whole, reply_at}
use Rattle.kip_msgs.proofs.MessageLaws.{heartbeat_reply_body_is_field, commit_reply_body_is_field}
use Rattle.kip_msgs.proofs.WholeLaws.{is_field_fault, Outcome, whole_outcome, whole_again, none_left, left_whole, is_all, is_longer, is_head}

-- what a body gives that begins with a reply
pub followed : (body : List ℕ) (v : ReplyValue) (rest : List ℕ) → FitsReply v → body ≡ reply_body v ++ rest → reply_at (reply_api v) body ≡ whole v rest
unfolding reply_at reply_body
followed body (heartbeat_reply header v) rest fits is = whole_again (λ p. heartbeat_reply p.0 p.1) body (header, v) rest heartbeat_reply_body_is_field fits is
followed body (commit_reply header v) rest fits is = whole_again (λ p. commit_reply p.0 p.1) body (header, v) rest commit_reply_body_is_field fits is

-- the same of the API that it is a reply of
followed_of : (api : Api) (body : List ℕ) (v : ReplyValue) (rest : List ℕ) → reply_api v ≡ api → FitsReply v → body ≡ reply_body v ++ rest → reply_at api body ≡ whole v rest
followed_of api body v rest of_api fits is = rw (← of_api) (followed body v rest fits is)

-- what a body gives, and why
abbrev pub ReplyOutcome : Api → List ℕ → Result ReplyValue MsgFault → Type 0
ReplyOutcome api body = Outcome (λ v. (reply_api v ≡ api) × SpellsReply v body) (HasLeftOverReply api body) (λ _. ⊥)

pub outcome : (api : Api) (body : List ℕ) → AreBytes body → ReplyOutcome api body (reply_at api body)
unfolding reply_at reply_body
outcome Heartbeat body are =
    whole_outcome (λ v. (reply_api v ≡ Heartbeat) × SpellsReply v body) (HasLeftOverReply Heartbeat body) (λ _. ⊥) (λ p. heartbeat_reply p.0 p.1) body heartbeat_reply_body_is_field are
    (λ p fits is. (refl, record { fits = fits; bytes = is }))
    (λ p left fits some is. (heartbeat_reply p.0 p.1, left, refl, fits, some, is))
outcome Commit body are =
    whole_outcome (λ v. (reply_api v ≡ Commit) × SpellsReply v body) (HasLeftOverReply Commit body) (λ _. ⊥) (λ p. commit_reply p.0 p.1) body commit_reply_body_is_field are
    (λ p fits is. (refl, record { fits = fits; bytes = is }))
    (λ p left fits some is. (commit_reply p.0 p.1, left, refl, fits, some, is))

-- ---- what each answer says of the body

pub read_spells : (api : Api) (body : List ℕ) (v : ReplyValue) → AreBytes body → reply_at api body ≡ Ok v → (reply_api v ≡ api) × SpellsReply v body
read_spells api body v are = is_all (reply_at api body) v (outcome api body are)

pub spells_read : (api : Api) (body : List ℕ) (v : ReplyValue) → reply_api v ≡ api → SpellsReply v body → reply_at api body ≡ Ok v
spells_read api body v of_api spells = followed_of api body v [] of_api spells.fits (spells.bytes ∙ sym (append-nil (reply_body v))) ∙ none_left v [] refl

pub left_over_again : (api : Api) (body : List ℕ) → HasLeftOverReply api body → reply_at api body ≡ Err LeftOver
left_over_again api body h = followed_of api body h.0 h.1 h.2 h.3 h.5 ∙ left_whole h.0 h.1 h.4

pub is_left_over : (api : Api) (body : List ℕ) → AreBytes body → reply_at api body ≡ Err LeftOver → HasLeftOverReply api body
is_left_over api body are = is_longer (reply_at api body) (λ none. none) (outcome api body are)

-- only a field's fault comes besides
pub never : (api : Api) (body : List ℕ) (fault : MsgFault) → AreBytes body → is_field_fault fault ≡ false → fault ≢ LeftOver → reply_at api body ≡ Err fault → ⊥
never api body fault are no_field other = is_head (reply_at api body) fault no_field other (outcome api body are)
