-- Why a body of a request closes its connection.
use Rattle.std.specs.Prelude.{◌≡◌, ◌≢◌, ℕ, List, ◌++◌, None}
use Rattle.flex_wire.specs.Spelling.{int16}
use Rattle.kip_msgs.specs.Api.{key_of, version_of, api_with_key}
use Rattle.kip_msgs.specs.Heads.{HasFieldFault, HasLeftOver}
use Rattle.kip_msgs.specs.Spelling.{SpellsRequest}
use Rattle.kip_msgs.specs.Values.{RequestValue}
use Rattle.coord_server.specs.declared.reason.Reason.{Reason}
use Rattle.coord_server.specs.declared.reason.Reason.TheVariants.{Api, Version, Field, LeftOver, Overtaken, Request, Size, Silent, Unread}

-- It begins with the key of no API, or with that of an API and a version that isn't the API's; it is no request, for this fault of a field
-- or for the bytes behind it; or it is a request. The others aren't reasons of a body.
abbrev pub IsReason : List ℕ → Reason → Type 0
IsReason body (Api key) = (rest : List ℕ) × (api_with_key key ≡ None) × (body ≡ int16 key ++ rest)
IsReason body (Version api version) = (rest : List ℕ) × (version ≢ version_of api) × (body ≡ int16 (key_of api) ++ (int16 version ++ rest))
IsReason body (Field fault) = HasFieldFault fault body
IsReason body LeftOver = HasLeftOver body
IsReason body Overtaken = (v : RequestValue) × SpellsRequest v body
IsReason body (Request key) = ⊥
IsReason body Size = ⊥
IsReason body (Silent seconds) = ⊥
IsReason body (Unread seconds) = ⊥
