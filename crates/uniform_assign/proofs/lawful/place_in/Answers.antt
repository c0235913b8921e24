use Rattle.std.proofs.Common.{◌≡◌, ◌<◌, length, refl, sym, subst, ◌∙◌, rules, to_z, of_z}
use Rattle.std.specs.Int.{w32}
use Rattle.std.proofs.lemmas.Option.{same_Some, slice_get_read, slice_get_within}
use Rattle.topic_meta.specs.declared.view_topic.ViewTopic.{ViewTopic}
use Rattle.uniform_assign.proofs.Staying.{index_shown}
use Rattle.uniform_assign.proofs.lawful.place_in.Goals as goal

pub returns-then-index-topics : goal.returns-then-index-topics
returns-then-index-topics c =
    let topics = c.args.topics.now in
    let at = c.in_ok-at.at in
    let (topic, is_topic, same_id) = c.in_ok-at.ensures in
    let shown : to_z w32 (of_z w32 c.args.partition.now.index) ≡ c.args.partition.now.index = search rules in
    let index = sym shown ∙ index_shown c.try_from.result _ c.in_ok-index.index c.in_ok-index.ensures.value c.try_from.ensures in
    let x = c.index-topics-at.result in
    let one : x ≡ topic =
    same_Some x topic (sym (slice_get_read topics (length topics) at x refl (slice_get_within topics at topic is_topic) c.index-topics-at.is) ∙ is_topic) in
    record {
      topic = topic;
      is_topic = is_topic;
      is_named = c.if-named-at.true;
      same = λ i. record { topic = sym same_id i; index = index i };
      below = subst (λ (y : ViewTopic). c.in_ok-index.index < y.count) (sym c.index-topics-at.is ∙ one) c.if-index-topics.true;
    }
