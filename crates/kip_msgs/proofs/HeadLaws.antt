-- The four bytes that a request's body begins with: which API they name, or what is wrong with them.
use Rattle.std.proofs.Common.{◌≡◌, ℕ, ℤ, pos, negsuc, ◌<◌, ◌≤◌, ◌⊎◌, inl, inr, Bool, true, false, cond, eqb, List, ◌++◌, length, take, drop, Option, Some, None, Result, Ok, Err, refl, sym, ap, subst, ◌∙◌, rules}
use Rattle.std.specs.Prelude.{FitsSigned}
use Rattle.std.specs.Int.{w16, cast_signed, from_be_bytes}
use Rattle.std.specs.Ordering.{int_eq}
use Rattle.std.proofs.lemmas.Bool.{cases_lt, lt-ltb, le-ltb, eqb-true}
use Rattle.std.proofs.lemmas.Bool.Decides.{Decides-int_eq}
use Rattle.flex_wire.specs.declared.fault.WireFault.TheVariants.{Short, NoMemory}
use Rattle.flex_wire.specs.Spelling.{int16}
use Rattle.flex_wire.specs.Reading.{bytes_at, signed_at}
use Rattle.flex_wire.specs.Laws.{AreBytes}
use Rattle.flex_wire.proofs.Fields.{AreBytes-rest}
use Rattle.kip_msgs.specs.declared.api.Api.{Api}
use Rattle.kip_msgs.specs.declared.api.Api.TheVariants.{Heartbeat, Commit}
use Rattle.kip_msgs.specs.declared.fault.MsgFault.{MsgFault}
use Rattle.kip_msgs.specs.declared.fault.MsgFault.TheVariants.{Wire, UnknownApi, UnknownVersion, LeftOver}
use Rattle.kip_msgs.specs.Api.{key_of, version_of, api_with_key}
use Rattle.kip_msgs.specs.Heads.{BeginsWith, HasUnknownKey, HasUnknownVersion, EndsInHead}
use Rattle.kip_msgs.specs.Reading.{version_at, api_at}
use Rattle.kip_msgs.proofs.MessageLaws.{int16_is_field}

-- an INT16 is there, or the bytes end inside it
abbrev IsTaken : List ℕ → Type 0
IsTaken bytes = (z : ℤ) × (rest : List ℕ) × (signed_at w16 bytes ≡ Ok (z, rest)) × FitsSigned w16 z × (bytes ≡ int16 z ++ rest)

abbrev IsShort : List ℕ → Type 0
IsShort bytes = (signed_at w16 bytes ≡ Err Short) × (length bytes < 2)

short_at : (bytes : List ℕ) → length bytes < 2 → signed_at w16 bytes ≡ Err Short
unfolding signed_at bytes_at
short_at bytes lt = rw (lt-ltb (length bytes) 2 lt) refl

taken_at : (bytes : List ℕ) → 2 ≤ length bytes → (x : ℤ × List ℕ) × (signed_at w16 bytes ≡ Ok x)
unfolding signed_at bytes_at
taken_at bytes le = ((cast_signed w16 (from_be_bytes w16 (take 2 bytes)), drop 2 bytes), rw (le-ltb (length bytes) 2 le) refl)

int16_cases : (bytes : List ℕ) → AreBytes bytes → IsTaken bytes ⊎ IsShort bytes
int16_cases bytes are =
    elim (cases_lt (length bytes) 2) [
      | inl lt ↦ inr (short_at bytes lt, lt)
      | inr le ↦
          let t = taken_at bytes le in
          let f = int16_is_field.taken bytes t.0.0 t.0.1 are t.1 in
          inl (t.0.0, t.0.1, t.1, f.0, f.1)
    ]

int16_again : (z : ℤ) (bytes rest : List ℕ) → FitsSigned w16 z → bytes ≡ int16 z ++ rest → signed_at w16 bytes ≡ Ok (z, rest)
int16_again z bytes rest fits is = ap (signed_at w16) is ∙ int16_is_field.again z rest fits

-- ---- the key of an API

key_fits : (api : Api) → FitsSigned w16 (key_of api)
key_fits Heartbeat = search rules
key_fits Commit = search rules

version_fits : (api : Api) → FitsSigned w16 (version_of api)
version_fits Heartbeat = search rules
version_fits Commit = search rules

named_by_two : (a b : Bool) (key : ℕ) (api : Api) → (a ≡ true → key ≡ 68) → (b ≡ true → key ≡ 8) → cond a (Some Heartbeat) (cond b (Some Commit) None) ≡ Some api → pos key ≡ key_of api
named_by_two true b key Heartbeat one other e = ap pos (one refl)
named_by_two true b key Commit one other e = absurd cc
named_by_two false true key Heartbeat one other e = absurd cc
named_by_two false true key Commit one other e = ap pos (other refl)
named_by_two false false key api one other e = absurd cc

pub key_is : (key : ℤ) (api : Api) → api_with_key key ≡ Some api → key ≡ key_of api
key_is (pos key) api e = named_by_two (eqb key 68) (eqb key 8) key api (eqb-true key 68) (eqb-true key 8) e
key_is (negsuc n) api e = absurd cc

-- each API is the one of its key
named : (api : Api) → api_with_key (key_of api) ≡ Some api
named Heartbeat = refl
named Commit = refl

-- ---- what each front gives

version_given : (bytes : List ℕ) (api : Api) (version : ℤ) (rest : List ℕ) → signed_at w16 bytes ≡ Ok (version, rest) → version_at (Some api) bytes ≡ cond (int_eq version (version_of api)) (Ok (api, rest)) (Err UnknownVersion)
version_given bytes api version rest e = rw e refl

pub key_given : (body : List ℕ) (key : ℤ) (rest : List ℕ) → FitsSigned w16 key → body ≡ int16 key ++ rest → api_at body ≡ version_at (api_with_key key) rest
unfolding api_at
key_given body key rest fits is = rw (int16_again key body rest fits is) refl

api_given : (body : List ℕ) (api : Api) (rest : List ℕ) → body ≡ int16 (key_of api) ++ rest → api_at body ≡ version_at (Some api) rest
api_given body api rest is = key_given body (key_of api) rest (key_fits api) is ∙ ap (λ (o : Option Api). version_at o rest) (named api)

not_chosen : {A : Type 0} (b : Bool) (x y : A) → (b ≡ true → ⊥) → cond b x y ≡ y
not_chosen true x y e = absurd (e refl)
not_chosen false x y e = refl

-- the test of the version
chosen : {A : Type 0} (version expected : ℤ) (x y : A) → (version ≡ expected → ⊥) → cond (int_eq version expected) x y ≡ y
chosen version expected x y other = not_chosen (int_eq version expected) x y (λ e. other ((Decides-int_eq version expected).0 e))

pub again : (body : List ℕ) (api : Api) (rest : List ℕ) → BeginsWith api rest body → api_at body ≡ Ok (api, rest)
again body api rest is =
    api_given body api (int16 (version_of api) ++ rest) is
    ∙ (version_given (int16 (version_of api) ++ rest) api (version_of api) rest (int16_again (version_of api) (int16 (version_of api) ++ rest) rest (version_fits api) refl)
    ∙ ap (λ (b : Bool). cond b (Ok (api, rest)) (Err UnknownVersion)) ((Decides-int_eq (version_of api) (version_of api)).1 refl))

pub unknown_key_again : (body : List ℕ) → HasUnknownKey body → api_at body ≡ Err UnknownApi
unknown_key_again body h = key_given body h.0 h.1 h.2 h.4 ∙ ap (λ (o : Option Api). version_at o h.1) h.3

pub unknown_version_again : (body : List ℕ) → HasUnknownVersion body → api_at body ≡ Err UnknownVersion
unknown_version_again body h =
    api_given body h.0 (int16 h.1 ++ h.2) h.5
    ∙ (version_given (int16 h.1 ++ h.2) h.0 h.1 h.2 (int16_again h.1 (int16 h.1 ++ h.2) h.2 h.3 refl)
    ∙ chosen h.1 (version_of h.0) (Ok (h.0, h.2)) (Err UnknownVersion) h.4)

pub short_again : (body : List ℕ) → EndsInHead body → api_at body ≡ Err (Wire Short)
unfolding api_at
short_again body (inl lt) = rw (short_at body lt) refl
short_again body (inr h) = api_given body h.0 h.1 h.3 ∙ rw (short_at h.1 h.2) refl

-- ---- which front it was

-- what a body gives, with what it begins with
pub data Front (body : List ℕ) : Result (Api × List ℕ) MsgFault → Type 0 where
  found : (api : Api) (rest : List ℕ) → BeginsWith api rest body → Front body (Ok (api, rest))
  unknown_key : HasUnknownKey body → Front body (Err UnknownApi)
  unknown_version : HasUnknownVersion body → Front body (Err UnknownVersion)
  short : EndsInHead body → Front body (Err (Wire Short))

version_front : (body : List ℕ) (api : Api) (version : ℤ) (after : List ℕ) (b : Bool) → FitsSigned w16 version → body ≡ int16 (key_of api) ++ (int16 version ++ after)
    → (b ≡ true → version ≡ version_of api) → (version ≡ version_of api → b ≡ true) → Front body (cond b (Ok (api, after)) (Err UnknownVersion))
version_front body api version after true fits is same back = found api after (is ∙ ap (λ (v : ℤ). int16 (key_of api) ++ (int16 v ++ after)) (same refl))
version_front body api version after false fits is same back = unknown_version (api, version, after, fits, (λ e. absurd (let h = back e in cc)), is)

behind_key : (body : List ℕ) (key : ℤ) (rest : List ℕ) (o : Option Api) → AreBytes rest → FitsSigned w16 key → body ≡ int16 key ++ rest → api_with_key key ≡ o → Front body (version_at o rest)
behind_key body key rest None are fits is e = unknown_key (key, rest, fits, e, is)
behind_key body key rest (Some api) are fits is e =
    let begins : body ≡ int16 (key_of api) ++ rest = is ∙ ap (λ (k : ℤ). int16 k ++ rest) (key_is key api e) in
    elim (int16_cases rest are) [
      | inl t ↦
          subst (Front body) (sym (version_given rest api t.0 t.1 t.2))
          (version_front body api t.0 t.1 (int_eq t.0 (version_of api)) t.3 (begins ∙ ap (λ (l : List ℕ). int16 (key_of api) ++ l) t.4) (Decides-int_eq t.0 (version_of api)).0 (Decides-int_eq t.0 (version_of api)).1)
      | inr s ↦
          let stopped : version_at (Some api) rest ≡ Err (Wire Short) = rw s.0 refl in
          subst (Front body) (sym stopped) (short (inr (api, rest, s.1, begins)))
    ]

pub front : (body : List ℕ) → AreBytes body → Front body (api_at body)
front body are =
    elim (int16_cases body are) [
      | inl t ↦ subst (Front body) (sym (key_given body t.0 t.1 t.3 t.4)) (behind_key body t.0 t.1 (api_with_key t.0) (AreBytes-rest (int16 t.0) t.1 (subst AreBytes t.4 are)) t.3 t.4 refl)
      | inr s ↦ subst (Front body) (sym (short_again body (inl s.1))) (short (inl s.1))
    ]

-- ---- what each answer says of the front

pub front_found : (body : List ℕ) (r : Result (Api × List ℕ) MsgFault) (x : Api × List ℕ) → Front body r → r ≡ Ok x → BeginsWith x.0 x.1 body
front_found body _ x (found api rest is) e =
    let same : (let p : Api × List ℕ = (api, rest) in p ≡ x) = cc in
    subst (λ (p : Api × List ℕ). BeginsWith p.0 p.1 body) same is
front_found body _ x (unknown_key h) e = absurd cc
front_found body _ x (unknown_version h) e = absurd cc
front_found body _ x (short h) e = absurd cc

pub front_unknown_key : (body : List ℕ) (r : Result (Api × List ℕ) MsgFault) → Front body r → r ≡ Err UnknownApi → HasUnknownKey body
front_unknown_key body _ (found api rest is) e = absurd cc
front_unknown_key body _ (unknown_key h) e = h
front_unknown_key body _ (unknown_version h) e = absurd cc
front_unknown_key body _ (short h) e = absurd cc

pub front_unknown_version : (body : List ℕ) (r : Result (Api × List ℕ) MsgFault) → Front body r → r ≡ Err UnknownVersion → HasUnknownVersion body
front_unknown_version body _ (found api rest is) e = absurd cc
front_unknown_version body _ (unknown_key h) e = absurd cc
front_unknown_version body _ (unknown_version h) e = h
front_unknown_version body _ (short h) e = absurd cc

pub front_short : (body : List ℕ) (r : Result (Api × List ℕ) MsgFault) → Front body r → r ≡ Err (Wire Short) → EndsInHead body
front_short body _ (found api rest is) e = absurd cc
front_short body _ (unknown_key h) e = absurd cc
front_short body _ (unknown_version h) e = absurd cc
front_short body _ (short h) e = h

pub front_not_left_over : (body : List ℕ) (r : Result (Api × List ℕ) MsgFault) → Front body r → r ≡ Err LeftOver → ⊥
front_not_left_over body _ (found api rest is) e = absurd cc
front_not_left_over body _ (unknown_key h) e = absurd cc
front_not_left_over body _ (unknown_version h) e = absurd cc
front_not_left_over body _ (short h) e = absurd cc

pub front_not_no_memory : (body : List ℕ) (r : Result (Api × List ℕ) MsgFault) → Front body r → r ≡ Err (Wire NoMemory) → ⊥
front_not_no_memory body _ (found api rest is) e = absurd cc
front_not_no_memory body _ (unknown_key h) e = absurd cc
front_not_no_memory body _ (unknown_version h) e = absurd cc
front_not_no_memory body _ (short h) e = absurd cc
