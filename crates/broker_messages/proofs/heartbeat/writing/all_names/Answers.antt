use Rattle.broker_messages.proofs.NameLemmas.{one_more}
use Rattle.broker_messages.proofs.heartbeat.writing.all_names.Goals as goal

pub loop-name-preserved : goal.loop-name-preserved
loop-name-preserved c =
    one_more c.match-names.all c.args.further.now c.loop-name.name-index c.loop-name.all c.push.new.self _ c.loop-name-test.true c.loop-name.invariant c.if-name-gt-LONGEST_STRING.false c.in_ok-push.ensures.items
