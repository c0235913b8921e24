use Rattle.std.proofs.Common.{refl, ap}
use Rattle.std.proofs.lemmas.List.{drop_all}
use Rattle.std.proofs.lemmas.Result.{err_from_is_err_and}
use Rattle.topic_meta.specs.Views.{all_named}
use Rattle.replica_snapshots.proofs.Puts.{all_left, one_less, one_stopped, none_left, next_of_slice}
use Rattle.replica_snapshots.proofs.parts.put_each_topic.Goals as goal

pub loop-topic-init : goal.loop-topic-init
loop-topic-init c = all_left refl

pub loop-topic-preserved : goal.loop-topic-preserved
loop-topic-preserved c =
    one_less c.loop-topic.invariant
    (ap all_named (next_of_slice c.args.topics.now c.loop-topic.topic-index _ c.topic-item.result c.loop-topic-test.true c.topic-item.is))
    c.in_ok-put_topic.ensures

pub returns-in_err-put_topic : goal.returns-in_err-put_topic
returns-in_err-put_topic c =
    let p = err_from_is_err_and c.from_residual.result c.from_residual.ensures.1 in
    one_stopped c.from_residual.result c.loop-topic.invariant
    (ap all_named (next_of_slice c.args.topics.now c.loop-topic.topic-index _ c.topic-item.result c.loop-topic-test.true c.topic-item.is))
    c.in_err-put_topic.ensures p.1 p.2

pub returns : goal.returns
returns c = none_left c.loop-topic.invariant (ap all_named (drop_all c.loop-topic.topic-index c.args.topics.now c.loop-topic-test.false))
