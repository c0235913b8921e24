use Rattle.std.proofs.Common.{ap, sym, ◌∙◌}
use Rattle.group_types.specs.Sets.{size}
use Rattle.group_types.proofs.NameLemmas.{size-texts}
use Rattle.group_types.proofs.name_set.NameSet.len.Goals as goal

pub returns : goal.returns
returns c =
    c.len.ensures.len
    ∙ sym (size-texts c.self.inside.names.keys c.len.ensures.ordered)
    ∙ ap size c.self.view_is
