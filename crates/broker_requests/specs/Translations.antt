-- What takes the place of a body that begins as a heartbeat of version 1.
use Rattle.std.specs.Prelude.{ℕ, ℤ, pos, List, Option}
use Rattle.kip_msgs.specs.Values.{RequestHeaderValue, HeartbeatRequestValue}
use Rattle.broker_messages.specs.declared.api.BrokerApi.TheVariants.{ConsumerGroupHeartbeat}
use Rattle.broker_messages.specs.Head.{BeginsRequest}
use Rattle.broker_messages.specs.Heartbeat.{SpellsHeartbeat1, IsTranslation}
use Rattle.broker_requests.specs.declared.translation.Translation.{Translation}
use Rattle.broker_requests.specs.declared.translation.Translation.TheVariants.{Request, Refusal, NoHeartbeat}
use Rattle.broker_requests.specs.Expressions.{AreMatched, HasNoExpression}

-- the request of version 0 that means the same, in which the names that the regular expression matches stand for it
pub record MeansTheSame (names : List (List ℕ)) (body written : List ℕ) : Type 0 where
  pub further : List (List ℕ)
  pub are_matched : AreMatched names body further
  pub translation : IsTranslation further body written

-- the regular expression is none, and the request has this correlation id
pub record IsRefusedAs (body : List ℕ) (correlation_id : ℤ) : Type 0 where
  pub none : HasNoExpression body
  pub begins : BeginsRequest ConsumerGroupHeartbeat (pos 1) correlation_id body

-- the body is no heartbeat of version 1
abbrev pub IsNoHeartbeat1 : List ℕ → Type 0
IsNoHeartbeat1 body = (header : RequestHeaderValue) (v : HeartbeatRequestValue) (regex : Option (List ℕ)) → ¬ SpellsHeartbeat1 header v regex body

abbrev pub IsTranslatedAs : List (List ℕ) → List ℕ → Translation → Type 0
IsTranslatedAs names body (Request written) = MeansTheSame names body written.items
IsTranslatedAs names body (Refusal correlation_id) = IsRefusedAs body correlation_id
IsTranslatedAs names body NoHeartbeat = IsNoHeartbeat1 body
