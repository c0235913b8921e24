use Rattle.std.proofs.Common.{not, ap, sym, ◌∙◌}
use Rattle.std.specs.String.{string_bytes}
use Rattle.group_types.specs.Sets.{has, with_one}
use Rattle.group_types.proofs.NameLemmas.{has-texts, with_one-texts}
use Rattle.group_types.proofs.name_set.NameSet.insert.Goals as goal

pub returns-clause-added : goal.returns-clause-added
returns-clause-added c =
    with_one-texts (string_bytes c.in_ok-name.name) c.self.inside.names c.insert.new.self c.in_ok-insert.ensures.updates
    ∙ (λ i. with_one (c.self.view_is i) (c.in_ok-name.ensures.ok i))

pub returns-clause-is_new : goal.returns-clause-is_new
returns-clause-is_new c =
    c.in_ok-insert.ensures.added
    ∙ ap not (sym (has-texts c.self.inside.names.keys (string_bytes c.in_ok-name.name)) ∙ (λ i. has (c.self.view_is i) (c.in_ok-name.ensures.ok i)))
