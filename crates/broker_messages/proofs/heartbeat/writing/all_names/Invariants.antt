use Rattle.broker_messages.proofs.NameLemmas.{AreNames}
use Rattle.broker_messages.proofs.heartbeat.writing.all_names.Given as goal

abbrev pub invariant-loop-name : goal.invariant-loop-name
invariant-loop-name l = AreNames l.initial.all l.further l.name-index l.all
