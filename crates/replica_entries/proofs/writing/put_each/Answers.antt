use Rattle.std.proofs.Common.{sym, subst}
use Rattle.std.proofs.lemmas.Result.{err_from_is_err_and}
use Rattle.flex_wire.proofs.Puts.{put_more, put_stopped}
use Rattle.topic_meta.specs.Images.{entry_of}
use Rattle.topic_meta.specs.declared.topic.TopicEntry.{TopicEntry}
use Rattle.replica_entries.specs.Spelling.{topic_fields, FitsTopic}
use Rattle.replica_entries.proofs.TopicLaws.{topic_fits}
use Rattle.replica_entries.proofs.writing.put_each.Goals as goal

pub put_topic-requires : goal.put_topic-requires
put_topic-requires c = subst (λ (x : TopicEntry). FitsTopic (entry_of x)) (sym c.topic-item.is) (topic_fits c.args.topics.now c.loop-topic.topic-index _ c.loop-topic-test.true c.requires)

pub returns-in_err-put_topic : goal.returns-in_err-put_topic
returns-in_err-put_topic c =
    let p = err_from_is_err_and c.from_residual.result c.from_residual.ensures.1 in
    rw p.1 (put_stopped topic_fields entry_of c.args.topics.now c.loop-topic.topic-index _ c.args.out.now c.loop-topic.out c.put_topic.new.out p.0 c.loop-topic-test.true c.loop-topic.invariant c.in_err-put_topic.ensures.err (rw c.topic-item.is at c.in_err-put_topic.ensures.room) c.put_topic.ensures.capacity)

pub loop-topic-preserved : goal.loop-topic-preserved
loop-topic-preserved c = put_more topic_fields entry_of c.args.topics.now c.loop-topic.topic-index _ c.args.out.now c.loop-topic.out c.put_topic.new.out c.loop-topic-test.true c.loop-topic.invariant (rw c.topic-item.is at c.in_ok-put_topic.ensures.ok) c.put_topic.ensures.capacity
