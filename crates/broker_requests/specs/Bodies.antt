-- Who answers a body.
use Rattle.std.specs.Prelude.{◌≡◌, ◌≢◌, ℕ, pos, List, ◌++◌}
use Rattle.flex_wire.specs.Spelling.{int16}
use Rattle.broker_messages.specs.declared.api.BrokerApi.{BrokerApi}
use Rattle.broker_messages.specs.declared.api.BrokerApi.TheVariants.{OffsetCommit, ConsumerGroupHeartbeat}
use Rattle.broker_messages.specs.Api.{key_of}
use Rattle.broker_requests.specs.declared.asked.Asked.{Asked}
use Rattle.broker_requests.specs.declared.asked.Asked.TheVariants.{Coordinator, Heartbeat1, Other}

-- A heartbeat of version 1 begins so (Kafka protocol guide, "Request Header v2"; KIP-848).
abbrev pub IsHeartbeat1 : List ℕ → Type 0
IsHeartbeat1 body = (rest : List ℕ) × (body ≡ int16 (pos 68) ++ (int16 (pos 1) ++ rest))

-- The body begins with the key of one of the broker's APIs besides ConsumerGroupHeartbeat and OffsetCommit.
pub record IsOther (body : List ℕ) : Type 0 where
  pub api : BrokerApi
  pub no_heartbeat : api ≢ ConsumerGroupHeartbeat
  pub no_commit : api ≢ OffsetCommit
  pub rest : List ℕ
  pub begins : body ≡ int16 (key_of api) ++ rest

-- who is asked by a body
abbrev pub IsAsked : List ℕ → Asked → Type 0
IsAsked body Coordinator = ¬ IsHeartbeat1 body × ¬ IsOther body
IsAsked body Heartbeat1 = IsHeartbeat1 body
IsAsked body Other = IsOther body
