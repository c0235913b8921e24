use Rattle.std.proofs.Common.{◌≡◌, drop}
use Rattle.std.specs.FinMap as finite
use Rattle.group_types.specs.Commit.{with_offsets}
use Rattle.offset_guard.proofs.Commits.{topic_commitments}
use Rattle.offset_guard.proofs.offsets.Offsets.news_of.Given as goal

abbrev pub invariant-loop-topic : goal.invariant-loop-topic
invariant-loop-topic l =
    with_offsets l.image l.news (topic_commitments (drop l.topic-index l.topic-items))
    ≡ with_offsets l.image finite.empty (topic_commitments l.topic-items)
