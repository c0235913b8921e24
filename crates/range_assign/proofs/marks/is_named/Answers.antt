use Rattle.std.proofs.Common.{◌≡◌, Bool, true, false, refl, sym, ap, ◌∙◌, Some, string_bytes}
use Rattle.std.specs.Bool.{OnTrue}
use Rattle.std.specs.List.{slice_get}
use Rattle.std.proofs.lemmas.Option.{slice_get_read}
use Rattle.std.proofs.lemmas.Slice.Eq.{bytes_eq-Decides}
use Rattle.topic_meta.specs.declared.view_topic.ViewTopic.{ViewTopic}
use Rattle.range_assign.proofs.marks.is_named.Goals as goal

where_true : {P : Type 0} (b : Bool) → (b ≡ true → P) → OnTrue b P
where_true true p = p refl
where_true false p = tt

pub returns-then-place-topics : goal.returns-then-place-topics
returns-then-place-topics c =
    let topic = c.index-topics-place.result in
    let is : slice_get c.args.topics.now c.args.place ≡ Some topic = slice_get_read c.args.topics.now _ c.args.place topic refl c.if-place-topics.true c.index-topics-place.is in
    where_true c.eq.result (λ so. (topic, is, ap (λ (t : ViewTopic). string_bytes t.name) c.index-topics-place.is ∙ sym c.as_str.ensures.value ∙ (bytes_eq-Decides c.as_str.result.now c.args.name.now).0 (sym c.eq.ensures ∙ so)))
