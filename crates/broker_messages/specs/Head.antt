-- What a request's body begins with, and what a reply's does.
use Rattle.std.specs.Prelude.{◌≡◌, ℕ, ℤ, List, ◌++◌}
use Rattle.flex_wire.specs.Spelling.{int16, int32}
use Rattle.broker_messages.specs.declared.api.BrokerApi.{BrokerApi}
use Rattle.broker_messages.specs.Api.{key_of}

-- A request of this API, version and correlation id (Kafka protocol guide, "Request Header v1").
abbrev pub BeginsRequest : BrokerApi → ℤ → ℤ → List ℕ → Type 0
BeginsRequest api version correlation_id body =
    (rest : List ℕ) × (body ≡ int16 (key_of api) ++ (int16 version ++ (int32 correlation_id ++ rest)))

-- Bytes have been appended.
abbrev pub GoesOn : List ℕ → List ℕ → Type 0
GoesOn old new = (rest : List ℕ) × (new ≡ old ++ rest)

-- A reply to the request of this correlation id has been appended (Kafka protocol guide, "Response Header v0").
abbrev pub AddsReply : ℤ → List ℕ → List ℕ → Type 0
AddsReply correlation_id old new = (rest : List ℕ) × (new ≡ old ++ (int32 correlation_id ++ rest))
