-- What was appended for a request, as the answers of other APIs are.
use Rattle.std.proofs.Common.{◌≡◌, ◌⊎◌, ℕ, ℤ, List, [], ◌++◌, arith, inl, inr, ⊎_elim, refl, sym, subst, ◌∙◌, append-nil}
use Rattle.flex_wire.specs.Spelling.{int32}
use Rattle.broker_messages.specs.declared.api.BrokerApi.{BrokerApi}
use Rattle.broker_messages.specs.declared.api.BrokerApi.TheVariants.{Produce}
use Rattle.broker_messages.specs.Head.{BeginsRequest}
use Rattle.broker_topics.specs.Answers.{Appends, AddsFrame, IsFrameTo}
use Rattle.broker_topics.specs.declared.held.Held.{Held as HeldParts}
use Rattle.broker_topics.specs.declared.request.TopicsAnswer.{TopicsAnswer}
use Rattle.broker_topics.specs.declared.request.TopicsAnswer.TheVariants.{Replied, Held, NoReply, Closes}
use Rattle.broker_desk.specs.Answers.{IsReplyTo, IsSentFor}
use Rattle.broker_apis.specs.Told.{AppendsTo, AppendsFor, replied, closes}

-- An answer was appended, and it stands, or a reply that isn't there is the end of the connection.
pub told_as : (body : List ℕ) (api : BrokerApi) (version id : ℤ) (answer result : TopicsAnswer) (old new : List ℕ) → BeginsRequest api version id body
    → Appends answer id old new → (result ≡ NoReply → api ≡ Produce) → (result ≡ answer) ⊎ ((answer ≡ NoReply) × (result ≡ Closes)) → AppendsFor body result old new
told_as body api version id answer result old new begins appends silent other =
    ⊎_elim
    (λ (same : result ≡ answer).
    replied (record {
      api = api;
      version = version;
      correlation_id = id;
      begins = begins;
      appends = subst (λ (a : TopicsAnswer). Appends a id old new) (sym same) appends;
      silent = silent;
    }))
    (λ (both : (answer ≡ NoReply) × (result ≡ Closes)). closes both.1 (subst (λ (a : TopicsAnswer). Appends a id old new) both.0 appends))
    other

-- a frame that was appended is the reply to its request
reply_to : (id : ℤ) (frame : List ℕ) → IsFrameTo id frame → IsReplyTo id frame
reply_to id frame is = record { rest = is.rest; is_frame = record { size = omega (arith, is.size); bytes = is.bytes } }

-- what was sent, as bytes that were appended
pub record Sends (body old new : List ℕ) : Type 0 where
  pub bytes : List ℕ
  pub sent : IsSentFor body bytes
  pub items : new ≡ old ++ bytes

sends_frame : (body old new : List ℕ) (api : BrokerApi) (version id : ℤ) → BeginsRequest api version id body → AddsFrame id old new → Sends body old new
sends_frame body old new api version id begins adds = record {
  bytes = adds.frame;
  sent = record { api = api; version = version; correlation_id = id; begins = begins; reply = inl (reply_to id adds.frame adds.is_frame) };
  items = adds.bytes;
}

pub sends_reply : (body old new : List ℕ) → AppendsFor body Replied old new → Sends body old new
sends_reply body old new (replied to) = sends_frame body old new to.api to.version to.correlation_id to.begins to.appends
sends_reply body old new (closes other same) = absurd cc

pub sends_held : (body old new : List ℕ) (held : HeldParts) → AppendsFor body (Held held) old new → Sends body old new
sends_held body old new held (replied to) = sends_frame body old new to.api to.version to.correlation_id to.begins to.appends
sends_held body old new held (closes other same) = absurd cc

pub sends_nothing : (body old new : List ℕ) → AppendsFor body NoReply old new → Sends body old new
sends_nothing body old new (replied to) = record {
  bytes = [];
  sent = record {
    api = to.api;
    version = to.version;
    correlation_id = to.correlation_id;
    begins = to.begins;
    reply = inr (to.silent refl, refl);
  };
  items = to.appends ∙ sym (append-nil old);
}
sends_nothing body old new (closes other same) = absurd cc

pub same_where_closes : (body old new : List ℕ) → AppendsFor body Closes old new → new ≡ old
same_where_closes body old new (replied to) = to.appends
same_where_closes body old new (closes other same) = same
