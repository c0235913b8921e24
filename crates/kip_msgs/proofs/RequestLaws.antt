-- Requests, all of the body: what is read is spelled so, and what is spelled so is read.
use Rattle.std.proofs.Common.{◌≡◌, ◌≢◌, ℕ, false, List, [], ◌++◌, Result, Ok, Err, refl, sym, ap, subst, ◌∙◌, append_assoc}
use Rattle.std.proofs.lemmas.List.{append-nil}
use Rattle.flex_wire.specs.declared.fault.WireFault.TheVariants as wire
use Rattle.flex_wire.specs.Spelling.{int16}
use Rattle.flex_wire.specs.Laws.{AreBytes}
use Rattle.flex_wire.proofs.Fields.{AreBytes-rest}
use Rattle.kip_msgs.specs.declared.api.Api.{Api}
use Rattle.kip_msgs.specs.declared.api.Api.TheVariants.{Heartbeat, Commit}
use Rattle.kip_msgs.specs.declared.fault.MsgFault.{MsgFault}
use Rattle.kip_msgs.specs.declared.fault.MsgFault.TheVariants.{Wire, LeftOver}
use Rattle.kip_msgs.specs.Api.{key_of, version_of}
use Rattle.kip_msgs.specs.Values.{RequestHeaderValue, HeartbeatRequestValue, CommitRequestValue, RequestValue, heartbeat_request, commit_request}
use Rattle.kip_msgs.specs.Spelling.{request_header_fields, heartbeat_request_fields, commit_request_fields, request_body, FitsRequest, SpellsRequest}
use Rattle.kip_msgs.specs.Heads.{BeginsWith, HasLeftOver}
use Rattle.kip_msgs.specs.Reading.{and_then, api_at, whole, request_behind_at, request_at}
use Rattle.kip_msgs.proofs.MessageLaws.{header_rest, heartbeat_body_is_field, commit_body_is_field}
use Rattle.kip_msgs.proofs.HeadLaws.{again, front, front_found, front_not_left_over, front_not_no_memory}
use Rattle.kip_msgs.proofs.WholeLaws.{is_field_fault, Outcome, bad_head, whole_outcome, whole_again, none_left, left_whole, is_all, is_longer, is_head}

-- a request's body, and what is left behind it
heartbeat_parts : (header : RequestHeaderValue) (v : HeartbeatRequestValue) (rest : List ℕ) → request_body (heartbeat_request header v) ++ rest ≡ int16 (key_of Heartbeat) ++ (int16 (version_of Heartbeat) ++ ((header_rest header ++ heartbeat_request_fields v) ++ rest))
unfolding request_body request_header_fields
heartbeat_parts header v rest = simp append_assoc

commit_parts : (header : RequestHeaderValue) (v : CommitRequestValue) (rest : List ℕ) → request_body (commit_request header v) ++ rest ≡ int16 (key_of Commit) ++ (int16 (version_of Commit) ++ ((header_rest header ++ commit_request_fields v) ++ rest))
unfolding request_body request_header_fields
commit_parts header v rest = simp append_assoc

-- what a body gives that begins with a request
pub followed : (body : List ℕ) (v : RequestValue) (rest : List ℕ) → FitsRequest v → body ≡ request_body v ++ rest → request_at body ≡ whole v rest
unfolding request_at request_behind_at
followed body (heartbeat_request header v) rest fits is =
    let behind = (header_rest header ++ heartbeat_request_fields v) ++ rest in
    rw (again body Heartbeat behind (is ∙ heartbeat_parts header v rest)) (whole_again (λ p. heartbeat_request p.0 p.1) behind (header, v) rest heartbeat_body_is_field fits refl)
followed body (commit_request header v) rest fits is =
    let behind = (header_rest header ++ commit_request_fields v) ++ rest in
    rw (again body Commit behind (is ∙ commit_parts header v rest)) (whole_again (λ p. commit_request p.0 p.1) behind (header, v) rest commit_body_is_field fits refl)

-- what a body gives, and why
abbrev pub RequestOutcome : List ℕ → Result RequestValue MsgFault → Type 0
RequestOutcome body = Outcome (λ v. SpellsRequest v body) (HasLeftOver body) (λ fault. api_at body ≡ Err fault)

-- the bytes behind the head are those of a request
behind : (api : Api) (body rest bytes : List ℕ) → BeginsWith api rest body → rest ≡ bytes → body ≡ int16 (key_of api) ++ (int16 (version_of api) ++ bytes)
behind api body rest bytes begins is = begins ∙ ap (λ (l : List ℕ). int16 (key_of api) ++ (int16 (version_of api) ++ l)) is

of_api : (body rest : List ℕ) (api : Api) → AreBytes rest → BeginsWith api rest body → RequestOutcome body (request_behind_at api rest)
unfolding request_behind_at
of_api body rest Heartbeat are begins =
    whole_outcome (λ v. SpellsRequest v body) (HasLeftOver body) (λ fault. api_at body ≡ Err fault) (λ p. heartbeat_request p.0 p.1) rest heartbeat_body_is_field are
    (λ p fits is. record { fits = fits; bytes = behind Heartbeat body rest _ begins (is ∙ sym (append-nil _)) ∙ (sym (heartbeat_parts p.0 p.1 []) ∙ append-nil _) })
    (λ p left fits some is. (heartbeat_request p.0 p.1, left, fits, some, behind Heartbeat body rest _ begins is ∙ sym (heartbeat_parts p.0 p.1 left)))
of_api body rest Commit are begins =
    whole_outcome (λ v. SpellsRequest v body) (HasLeftOver body) (λ fault. api_at body ≡ Err fault) (λ p. commit_request p.0 p.1) rest commit_body_is_field are
    (λ p fits is. record { fits = fits; bytes = behind Commit body rest _ begins (is ∙ sym (append-nil _)) ∙ (sym (commit_parts p.0 p.1 []) ∙ append-nil _) })
    (λ p left fits some is. (commit_request p.0 p.1, left, fits, some, behind Commit body rest _ begins is ∙ sym (commit_parts p.0 p.1 left)))

of_head : (body : List ℕ) (x : Result (Api × List ℕ) MsgFault) → AreBytes body → api_at body ≡ x → RequestOutcome body (and_then x (λ api. request_behind_at api.0 api.1))
of_head body (Ok x) are e =
    let begins = front_found body (api_at body) x (front body are) e in
    of_api body x.1 x.0 (AreBytes-rest (int16 (version_of x.0)) x.1 (AreBytes-rest (int16 (key_of x.0)) (int16 (version_of x.0) ++ x.1) (subst AreBytes begins are))) begins
of_head body (Err fault) are e = bad_head fault e refl

pub outcome : (body : List ℕ) → AreBytes body → RequestOutcome body (request_at body)
unfolding request_at
outcome body are = of_head body (api_at body) are refl

-- ---- what each answer says of the body

pub read_spells : (body : List ℕ) (v : RequestValue) → AreBytes body → request_at body ≡ Ok v → SpellsRequest v body
read_spells body v are = is_all (request_at body) v (outcome body are)

pub spells_read : (body : List ℕ) (v : RequestValue) → SpellsRequest v body → request_at body ≡ Ok v
spells_read body v spells = followed body v [] spells.fits (spells.bytes ∙ sym (append-nil (request_body v))) ∙ none_left v [] refl

pub left_over_again : (body : List ℕ) → HasLeftOver body → request_at body ≡ Err LeftOver
left_over_again body h = followed body h.0 h.1 h.2 h.4 ∙ left_whole h.0 h.1 h.3

pub is_left_over : (body : List ℕ) → AreBytes body → request_at body ≡ Err LeftOver → HasLeftOver body
is_left_over body are = is_longer (request_at body) (front_not_left_over body (api_at body) (front body are)) (outcome body are)

pub head_failed : (body : List ℕ) (fault : MsgFault) → AreBytes body → is_field_fault fault ≡ false → fault ≢ LeftOver → request_at body ≡ Err fault → api_at body ≡ Err fault
head_failed body fault are no_field other = is_head (request_at body) fault no_field other (outcome body are)

pub never_no_memory : (body : List ℕ) → AreBytes body → request_at body ≡ Err (Wire wire.NoMemory) → ⊥
never_no_memory body are e = front_not_no_memory body (api_at body) (front body are) (head_failed body (Wire wire.NoMemory) are refl (λ same. absurd cc) e)
