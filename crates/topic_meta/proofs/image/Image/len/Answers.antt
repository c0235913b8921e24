use Rattle.std.proofs.Common.{sym, ap, ◌∙◌}
use Rattle.std.specs.FinMap as finite
use Rattle.topic_meta.proofs.Shown.{len-topics_in}
use Rattle.topic_meta.proofs.image.Image.len.Goals as goal

pub returns-clause-number : goal.returns-clause-number
returns-clause-number c = c.len.ensures.len ∙ sym (len-topics_in _ c.len.ensures.ordered) ∙ ap finite.len c.self.view_is
