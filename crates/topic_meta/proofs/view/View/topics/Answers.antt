use Rattle.std.proofs.Common.{sym, ap, ◌∙◌}
use Rattle.std.specs.FinMap.{entries}
use Rattle.topic_meta.specs.Views.{all_named}
use Rattle.topic_meta.proofs.Shown.{entries-shown}
use Rattle.topic_meta.proofs.view.View.topics.Goals as goal

pub returns-clause-all : goal.returns-clause-all
returns-clause-all c = ap all_named c.deref.ensures.value ∙ sym (entries-shown _ c.self.invariant.rising) ∙ ap entries c.self.view_is
