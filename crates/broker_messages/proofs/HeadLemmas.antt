-- The parts of a request's head.
use Rattle.std.proofs.Common.{◌≡◌, ℕ, ℤ, List, ◌++◌, ap, ◌∙◌}
use Rattle.flex_wire.specs.Spelling.{int16, int32}
use Rattle.broker_messages.specs.declared.api.BrokerApi.{BrokerApi}
use Rattle.broker_messages.specs.Api.{key_of}
use Rattle.broker_messages.specs.Head.{BeginsRequest}

pub begins : (api : BrokerApi) (key version id : ℤ) (body one two rest : List ℕ) → body ≡ int16 key ++ one → key ≡ key_of api → one ≡ int16 version ++ two → two ≡ int32 id ++ rest → BeginsRequest api version id body
begins api key version id body one two rest a is b c =
    (rest, a ∙ (ap (λ (k : ℤ). int16 k ++ one) is ∙ ap (λ (l : List ℕ). int16 (key_of api) ++ l) (b ∙ ap (λ (l : List ℕ). int16 version ++ l) c)))
