use Rattle.std.proofs.Common.{sym, ap, ◌∙◌}
use Rattle.topic_meta.specs.Views.{all_named, shown}
use Rattle.topic_meta.proofs.Same.{are_same-says}
use Rattle.topic_meta.proofs.Shown.{shown-same}
use Rattle.topic_meta.proofs.view.View.equals.Goals as goal

pub returns : goal.returns
returns c =
    let says = are_same-says c.as_slice.result.now c.as_slice-2.result.now in
    let left = ap all_named c.as_slice.ensures.value in
    let right = ap all_named c.as_slice-2.ensures.value in (
      λ so. sym c.self.view_is ∙ ap shown (sym left ∙ says.0 (sym c.have_same_topics.ensures ∙ so) ∙ right) ∙ c.other.view_is,
      λ is. c.have_same_topics.ensures
          ∙ says.1 (left ∙ shown-same _ _ c.self.invariant c.other.invariant (c.self.view_is ∙ is ∙ sym c.other.view_is) ∙ sym right),
    )
