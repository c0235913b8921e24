use Rattle.std.proofs.Common.{rules, ◌≡◌, Err, ◌∙◌}
use Rattle.std.specs.Slice.Iter.{chunks_rest, chunks_size}
use Rattle.topic_meta.specs.Images.{entries_of}
use Rattle.scenario_text.specs.declared.fault.LineFault.TheVariants.{BadLine}
use Rattle.scenario_text.proofs.TopicWords.{chunk_more, chunk_bad, all_topics}
use Rattle.scenario_text.proofs.topics.topics_of.Goals as goal

pub returns-in_err-topic_of-clause-refused : goal.returns-in_err-topic_of-clause-refused
returns-in_err-topic_of-clause-refused c = λ bad list are.
    let step = c.in-Some.ensures.steps.1 in
    let is_bad : c.topic_of.result ≡ Err BadLine = search rules in
    chunk_bad c.args.words.now (chunks_rest c.loop-topic.topic-iterator) c.in-Some.topic.now (chunks_rest c.next.new.self)
    (entries_of c.loop-topic.list.items) list (chunks_size c.loop-topic.topic-iterator) c.loop-topic.invariant.1 c.loop-topic.invariant.0
    step.0 step.1 step.2 (c.topic_of.ensures.refused is_bad) are

pub loop-topic-preserved : goal.loop-topic-preserved
loop-topic-preserved c =
    let step = c.in-Some.ensures.steps in (
      step.0 ∙ c.loop-topic.invariant.0,
      chunk_more c.args.words.now (chunks_rest c.loop-topic.topic-iterator) c.in-Some.topic.now (chunks_rest c.next.new.self)
          c.loop-topic.list.items c.push.new.self.items c.in_ok-topic_of.field-0 c.loop-topic.invariant.1 step.1.0 c.in_ok-push.ensures.items c.in_ok-topic_of.ensures.topic,
    )

pub returns-clause-topics : goal.returns-clause-topics
returns-clause-topics c =
    all_topics c.args.words.now (chunks_rest c.loop-topic.topic-iterator) (entries_of c.loop-topic.list.items) c.loop-topic.invariant.1 c.in-None.ensures.steps.1.0
