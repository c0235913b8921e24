use Rattle.std.proofs.Common.{◌≡◌, refl, sym, ap, ◌∙◌, Some}
use Rattle.std.specs.List.{slice_get}
use Rattle.std.proofs.lemmas.Option.{slice_get_read}
use Rattle.std.proofs.lemmas.Slice.Eq.{bytes_eq-Decides}
use Rattle.topic_meta.specs.declared.view_topic.ViewTopic.{ViewTopic}
use Rattle.uniform_assign.proofs.Staying.{where_true}
use Rattle.uniform_assign.proofs.lawful.has_id.Goals as goal

pub returns-then-at-topics : goal.returns-then-at-topics
returns-then-at-topics c =
    let topic = c.index-topics-at.result in
    let is : slice_get c.args.topics.now c.args.at ≡ Some topic = slice_get_read c.args.topics.now _ c.args.at topic refl c.if-at-topics.true c.index-topics-at.is in
    where_true c.eq.result (λ so. (topic, is, ap (λ (t : ViewTopic). t.id) c.index-topics-at.is ∙ (bytes_eq-Decides _ c.args.id.now).0 (sym c.eq.ensures ∙ so)))
