use Rattle.std.proofs.Common.{arith, ◌∷◌, ◌+◌, drop, sym, ap, ◌∙◌}
use Rattle.std.proofs.lemmas.List.{at_drop_more}
use Rattle.kip_msgs.specs.Views.{commit_request_topic_value}
use Rattle.group_types.specs.Commit.{named_commitments, with_offsets}
use Rattle.group_types.proofs.OffsetLemmas.{with_offsets-append}
use Rattle.offset_guard.specs.Requests.{topic_of}
use Rattle.offset_guard.proofs.Commits.{topic_commitments}
use Rattle.offset_guard.proofs.offsets.Offsets.news_of.Goals as goal

pub loop-topic-preserved : goal.loop-topic-preserved
loop-topic-preserved c =
    let image = c.args.image.now in
    let topics = c.as_slice-topic-items.result.now in
    let i = c.loop-topic.topic-index in
    let topic = c.topic-item.result in
    let rest = drop (i + 1) topics in
    ap (λ o. with_offsets image o (topic_commitments rest)) c.in_ok-put_topic.ensures
    ∙ sym (with_offsets-append image c.loop-topic.news (named_commitments (topic_of (commit_request_topic_value topic))) (topic_commitments rest))
    ∙ ap (λ t. with_offsets image c.loop-topic.news (topic_commitments (t ∷ rest))) c.topic-item.is
    ∙ sym (ap (with_offsets image c.loop-topic.news) (at_drop_more topic_commitments topics i topic (omega arith)))
    ∙ c.loop-topic.invariant
