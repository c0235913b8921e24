use Rattle.std.proofs.Common.{sym, subst, ◌∙◌}
use Rattle.group_types.specs.Images.{AreImageTopics}
use Rattle.topic_meta.proofs.Shown.{topics_in-clone}
use Rattle.topic_meta.proofs.image.Image.copy.Goals as goal

pub invariant_of-result : goal.invariant_of-result
invariant_of-result c =
    let same = topics_in-clone _ _ (λ x y h. h) (λ v w h. h) c.self.inside.topics.entries c.in_ok-topics.topics.entries c.in_ok-topics.ensures.cases in
    subst AreImageTopics (sym same) c.self.invariant

pub returns : goal.returns
returns c =
    let same = topics_in-clone _ _ (λ x y h. h) (λ v w h. h) c.self.inside.topics.entries c.in_ok-topics.topics.entries c.in_ok-topics.ensures.cases in
    same ∙ c.self.view_is
