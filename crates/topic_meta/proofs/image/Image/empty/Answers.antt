use Rattle.std.proofs.Common.{sym, subst}
use Rattle.group_types.specs.Images.{AreImageTopics}
use Rattle.group_types.proofs.Images.{empty-AreImageTopics}
use Rattle.topic_meta.specs.Stored.{topics_in}
use Rattle.topic_meta.proofs.image.Image.empty.Goals as goal

pub invariant_of-result : goal.invariant_of-result
invariant_of-result c = subst (λ es. AreImageTopics (topics_in es)) (sym c.new.ensures.empty) empty-AreImageTopics
