use Rattle.std.proofs.Common.{◌≡◌, ap, sym, ◌∙◌, rules}
use Rattle.std.specs.FinMap as finite
use Rattle.topic_meta.proofs.Same.{same_trees-says}
use Rattle.topic_meta.proofs.Shown.{len-topics_in}
use Rattle.topic_meta.proofs.image.Image.equals.Goals as goal

pub returns-then-len : goal.returns-then-len
returns-then-len c =
    let says = same_trees-says c.self.inside.topics.entries c.other.inside.topics.entries c.len.ensures.ordered c.len-2.ensures.ordered in (
      λ so. sym c.self.view_is ∙ says.0 (sym c.eq.ensures ∙ so) ∙ c.other.view_is,
      λ is. c.eq.ensures ∙ says.1 (c.self.view_is ∙ is ∙ sym c.other.view_is),
    )

-- images with different numbers of topics are different
pub returns-else-len : goal.returns-else-len
returns-else-len c =
    let lens = λ (is : c.args.self.now ≡ c.args.other.now). (
    c.len.ensures.len ∙ sym (len-topics_in _ c.len.ensures.ordered)
    ∙ ap finite.len (c.self.view_is ∙ is ∙ sym c.other.view_is)
    ∙ len-topics_in _ c.len-2.ensures.ordered ∙ sym c.len-2.ensures.len) in
    (λ so. absurd (c.if-len.false (search rules)), λ is. absurd (c.if-len.false (lens is)))
