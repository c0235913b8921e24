-- The broker's own answers.
use Rattle.std.specs.Prelude.{◌≡◌, ◌⊎◌, ℕ, ℤ, List, [], ◌++◌}
use Rattle.flex_wire.specs.Spelling.{int32}
use Rattle.group_types.specs.Frames.{IsFrame}
use Rattle.coord_node.specs.Coordinator.{Answer, Replied, Closes, Done}
use Rattle.broker_messages.specs.declared.api.BrokerApi.{BrokerApi}
use Rattle.broker_messages.specs.declared.api.BrokerApi.TheVariants.{Produce}
use Rattle.broker_messages.specs.Head.{BeginsRequest}
use Rattle.broker_desk.specs.declared.others.OwnAnswer.{OwnAnswer}
use Rattle.broker_desk.specs.declared.others.OwnAnswer.TheVariants as own

-- The frame of a reply to the request of this correlation id (Kafka protocol guide, "Protocol", "Response Header v0").
pub record IsReplyTo (correlation_id : ℤ) (frame : List ℕ) : Type 0 where
  pub rest : List ℕ
  pub is_frame : IsFrame (int32 correlation_id ++ rest) frame

-- What is sent for a request of an API besides ConsumerGroupHeartbeat and OffsetCommit: one frame with the request's correlation id. A
-- Produce may have no reply (Kafka protocol guide, "Produce API", acks).
pub record IsSentFor (body bytes : List ℕ) : Type 0 where
  pub api : BrokerApi
  pub version : ℤ
  pub correlation_id : ℤ
  pub begins : BeginsRequest api version correlation_id body
  pub reply : IsReplyTo correlation_id bytes ⊎ ((api ≡ Produce) × (bytes ≡ []))

-- The answer to such a request: that, or the end of the connection.
abbrev pub IsOwnAnswer : List ℕ → Answer → Type 0
IsOwnAnswer body (Replied bytes) = IsSentFor body bytes
IsOwnAnswer body Closes = Unit {0}
IsOwnAnswer body (Done removed) = ⊥

-- What was appended for a request, by the answer.
abbrev pub IsAppended : {H : Type 0} → List ℕ → OwnAnswer H → List ℕ → List ℕ → Type 0
IsAppended body own.Replied old new = (bytes : List ℕ) × IsSentFor body bytes × (new ≡ old ++ bytes)
IsAppended body (own.Held held) old new = (bytes : List ℕ) × IsSentFor body bytes × (new ≡ old ++ bytes)
IsAppended body own.Closes old new = new ≡ old
