use Rattle.std.proofs.Common.{ap, sym, ◌∙◌}
use Rattle.group_types.specs.Sets.{has}
use Rattle.group_types.proofs.NameLemmas.{has-texts}
use Rattle.group_types.proofs.name_set.NameSet.contains.Goals as goal

pub returns : goal.returns
returns c =
    c.contains.ensures
    ∙ sym (has-texts c.self.inside.names.keys c.args.name.now)
    ∙ ap (λ s. has s c.args.name.now) c.self.view_is
