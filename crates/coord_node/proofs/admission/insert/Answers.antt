use Rattle.std.proofs.Common.{refl, ◌∙◌}
use Rattle.coord_node.proofs.GroupLemmas.{insert_entry-absent_name}
use Rattle.coord_node.proofs.admission.insert.Goals as goal

pub returns : goal.returns
returns c =
    c.in-Ok.ensures.entries
    ∙ insert_entry-absent_name (λ k. k.group.state) c.args.groups.now.entries c.args.key c.args.kept _ refl c.requires.absent
