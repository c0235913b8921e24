use Rattle.std.proofs.Common.{◌≡◌, take}
use Rattle.topic_expressions.specs.Expressions.{texts}
use Rattle.broker_apis.specs.Names.{names_of}
use Rattle.broker_apis.proofs.names.names_of.Given as goal

-- the names of the topics that were looked at are there
abbrev pub invariant-loop-topic : goal.invariant-loop-topic
invariant-loop-topic l = texts l.names.items ≡ names_of (take l.topic-index l.topics)
