use Rattle.std.proofs.Common.{sym, ap, subst, ◌∙◌}
use Rattle.topic_meta.specs.Views.{all_named, shown, IsView}
use Rattle.topic_meta.proofs.Shown.{empty-IsView, shown-nil}
use Rattle.topic_meta.proofs.view.View.empty.Goals as goal

pub invariant_of-result : goal.invariant_of-result
invariant_of-result c = subst (λ ts. IsView (all_named ts)) (sym c.new.ensures.items) empty-IsView

pub returns : goal.returns
returns c = ap (λ ts. shown (all_named ts)) c.new.ensures.items ∙ shown-nil
