use Rattle.std.proofs.Common.{rules, sym, subst, string_bytes}
use Rattle.std.proofs.lemmas.Fn.{always_returns_same}
use Rattle.group_types.specs.Text.{text_cmp}
use Rattle.topic_meta.specs.declared.view_topic.ViewTopic.{ViewTopic}
use Rattle.range_assign.specs.Marks.{IsPlaceNamed}
use Rattle.range_assign.proofs.Marked.{IsPlaceNamed-searched}
use Rattle.range_assign.proofs.marks.place_searched.Goals as goal

pub returns : goal.returns
returns c =
    subst (IsPlaceNamed c.args.topics.now c.args.name.now) (sym c.ok.ensures.value)
    (IsPlaceNamed-searched c.args.topics.now c.requires c.args.name.now c.binary_search_by.result c.binary_search_by.ensures.bound
    (c.binary_search_by.ensures.position (λ (t : ViewTopic). text_cmp (string_bytes t.name) c.args.name.now) (always_returns_same _ _ _ (λ a r g h. search rules))))
