-- What may stand at the front of a body that is no request, in one that is no message, and behind a message.
use Rattle.std.specs.Prelude.{◌≡◌, ◌≢◌, ℕ, ℤ, ◌<◌, List, [], ◌++◌, length, None, Err, FitsSigned, ◌⊎◌}
use Rattle.std.specs.Int.{w16}
use Rattle.flex_wire.specs.declared.fault.WireFault.{WireFault}
use Rattle.flex_wire.specs.Spelling.{int16}
use Rattle.kip_msgs.specs.declared.api.Api.{Api}
use Rattle.kip_msgs.specs.declared.fault.MsgFault.TheVariants.{Wire}
use Rattle.kip_msgs.specs.Api.{key_of, version_of, api_with_key}
use Rattle.kip_msgs.specs.Values.{RequestValue, ReplyValue, reply_api}
use Rattle.kip_msgs.specs.Spelling.{FitsRequest, request_body, FitsReply, reply_body}
use Rattle.kip_msgs.specs.Reading.{request_at, reply_at}

-- It begins with the key and the version of an API ("Request Header v2").
abbrev pub BeginsWith : Api → List ℕ → List ℕ → Type 0
BeginsWith api rest body = body ≡ int16 (key_of api) ++ (int16 (version_of api) ++ rest)

-- It begins with a key that no API has.
abbrev pub HasUnknownKey : List ℕ → Type 0
HasUnknownKey body = (key : ℤ) × (rest : List ℕ) × FitsSigned w16 key × (api_with_key key ≡ None) × (body ≡ int16 key ++ rest)

-- It begins with the key of an API, and another version than its own.
abbrev pub HasUnknownVersion : List ℕ → Type 0
HasUnknownVersion body =
    (api : Api) × (version : ℤ) × (rest : List ℕ) × FitsSigned w16 version × (version ≢ version_of api) × (body ≡ int16 (key_of api) ++ (int16 version ++ rest))

-- It ends inside the key, or inside the version behind the key of an API.
abbrev pub EndsInHead : List ℕ → Type 0
EndsInHead body =
    (length body < 2) ⊎ ((api : Api) × (rest : List ℕ) × (length rest < 2) × (body ≡ int16 (key_of api) ++ rest))

-- The first of its fields that is no value of its type has this fault, where they are read in the order of the schema.
abbrev pub HasFieldFault : WireFault → List ℕ → Type 0
HasFieldFault fault body = request_at body ≡ Err (Wire fault)

-- The same of a reply of the API.
abbrev pub HasFieldFaultReply : Api → WireFault → List ℕ → Type 0
HasFieldFaultReply api fault body = reply_at api body ≡ Err (Wire fault)

-- It is a request with at least one byte more.
abbrev pub HasLeftOver : List ℕ → Type 0
HasLeftOver body = (v : RequestValue) × (rest : List ℕ) × FitsRequest v × (rest ≢ []) × (body ≡ request_body v ++ rest)

-- It is a reply of the API with at least one byte more.
abbrev pub HasLeftOverReply : Api → List ℕ → Type 0
HasLeftOverReply api body =
    (v : ReplyValue) × (rest : List ℕ) × (reply_api v ≡ api) × FitsReply v × (rest ≢ []) × (body ≡ reply_body v ++ rest)
