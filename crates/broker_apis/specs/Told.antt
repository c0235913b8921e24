-- What was appended for a request.
use Rattle.std.specs.Prelude.{◌≡◌, ℕ, ℤ, List}
use Rattle.broker_messages.specs.declared.api.BrokerApi.{BrokerApi}
use Rattle.broker_messages.specs.declared.api.BrokerApi.TheVariants.{Produce}
use Rattle.broker_messages.specs.Head.{BeginsRequest}
use Rattle.broker_topics.specs.Answers.{Appends}
use Rattle.broker_topics.specs.declared.request.TopicsAnswer.{TopicsAnswer}
use Rattle.broker_topics.specs.declared.request.TopicsAnswer.TheVariants.{NoReply, Closes}

-- By the answer: one frame with the correlation id that the body begins with, or nothing. Only a Produce has no reply.
pub record AppendsTo (body : List ℕ) (answer : TopicsAnswer) (old new : List ℕ) : Type 0 where
  pub api : BrokerApi
  pub version : ℤ
  pub correlation_id : ℤ
  pub begins : BeginsRequest api version correlation_id body
  pub appends : Appends answer correlation_id old new
  pub silent : answer ≡ NoReply → api ≡ Produce

-- The same, or nothing was appended and the connection is to be closed.
pub data AppendsFor (body : List ℕ) (answer : TopicsAnswer) (old new : List ℕ) : Type 0 where
  replied : AppendsTo body answer old new → AppendsFor body answer old new
  closes : answer ≡ Closes → new ≡ old → AppendsFor body answer old new
