use Rattle.std.proofs.Common.{ap, sym, ◌∙◌}
use Rattle.group_types.specs.Sets.{in_order}
use Rattle.group_types.proofs.NameLemmas.{in_order-texts, texts_of}
use Rattle.group_types.proofs.name_set.NameSet.iter.Goals as goal

pub returns-clause-rest : goal.returns-clause-rest
returns-clause-rest c =
    ap texts_of c.iter.ensures.rest
    ∙ sym (in_order-texts c.self.inside.names.keys c.iter.ensures.ordered)
    ∙ ap in_order c.self.view_is
