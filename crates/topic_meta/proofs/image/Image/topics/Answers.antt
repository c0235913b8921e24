use Rattle.std.proofs.Common.{sym, ap, ◌∙◌}
use Rattle.std.specs.FinMap.{entries}
use Rattle.topic_meta.specs.Stored.{shown_entries}
use Rattle.topic_meta.proofs.Shown.{entries-topics_in}
use Rattle.topic_meta.proofs.image.Image.topics.Goals as goal

pub returns-clause-rest : goal.returns-clause-rest
returns-clause-rest c =
    ap shown_entries c.iter.ensures.rest
    ∙ sym (entries-topics_in c.self.inside.topics.entries c.iter.ensures.ordered)
    ∙ ap entries c.self.view_is
