use Rattle.std.proofs.Common.{refl, sym, subst, arith}
use Rattle.std.proofs.lemmas.List.{length-map, take_all}
use Rattle.std.proofs.lemmas.List.Elements.{All-more, All-map}
use Rattle.topic_meta.specs.declared.topic.TopicEntry.{TopicEntry}
use Rattle.topic_meta.specs.Images.{entry_of}
use Rattle.replica_entries.specs.Spelling.{FitsTopic}
use Rattle.replica_entries.proofs.TopicLaws.{topic_fits}
use Rattle.replica_entries.proofs.check.are_spelled.Goals as goal

pub returns-then-not-is_spelled : goal.returns-then-not-is_spelled
returns-then-not-is_spelled c = (
  (λ e. absurd cc),
  (λ fits. c.if-not-is_spelled.ensures.1 (subst (λ (x : TopicEntry). FitsTopic (entry_of x)) (sym c.topic-item.is) (topic_fits c.args.topics.now c.loop-topic.topic-index c.topic-item.result c.loop-topic-test.true fits.1))),
)

pub loop-topic-preserved : goal.loop-topic-preserved
loop-topic-preserved c =
    All-more (λ (x : TopicEntry). FitsTopic (entry_of x)) c.args.topics.now c.loop-topic.topic-index c.topic-item.result c.loop-topic-test.true c.loop-topic.invariant (rw (← c.topic-item.is) (c.if-not-is_spelled.ensures.0 refl))

pub returns : goal.returns
returns c =
    let xs = c.args.topics.now in (
      (λ e. (omega (arith, length-map xs entry_of, c.if-topics-ge4294967295.false), All-map FitsTopic entry_of xs (rw (take_all c.loop-topic.topic-index xs c.loop-topic-test.false) at c.loop-topic.invariant))),
      (λ fits. refl),
    )
