-- The laws between bodies and messages.
use Rattle.std.specs.Prelude.{◌≡◌, ℕ, List}
use Rattle.kip_msgs.specs.Values.{RequestValue, ReplyValue, reply_api}
use Rattle.kip_msgs.specs.Spelling.{SpellsRequest, SpellsReply}

-- All of a body is at most one request.
abbrev pub OneRequestABody : Type 0
OneRequestABody = (v w : RequestValue) (body : List ℕ) → SpellsRequest v body → SpellsRequest w body → v ≡ w

-- All of a body is at most one reply of each API.
abbrev pub OneReplyABody : Type 0
OneReplyABody =
    (v w : ReplyValue) (body : List ℕ) → reply_api v ≡ reply_api w → SpellsReply v body → SpellsReply w body → v ≡ w

-- A request has one body.
abbrev pub OneBodyARequest : Type 0
OneBodyARequest = (v : RequestValue) (one other : List ℕ) → SpellsRequest v one → SpellsRequest v other → one ≡ other

-- A reply has one body.
abbrev pub OneBodyAReply : Type 0
OneBodyAReply = (v : ReplyValue) (one other : List ℕ) → SpellsReply v one → SpellsReply v other → one ≡ other
