use Rattle.std.proofs.Common.{Some, option_map, sym, ap, ◌∙◌}
use Rattle.std.proofs.lemmas.Option.{slice_get-map}
use Rattle.group_types.specs.Text.{Text}
use Rattle.coord_node.specs.Nodes.{Named, held_of}
use Rattle.coord_node.specs.NodeView.{named_in}
use Rattle.coord_node.proofs.restored.named_at.Goals as goal

pub returns-in-Some : goal.returns-in-Some
returns-in-Some c =
    ap (λ (t : Text). let named : Named = (t, held_of c.in-Some.kept.now.group) in Some named) c.as_str.ensures.value
    ∙ ap (option_map named_in) c.in-Some.ensures.entry ∙ sym (slice_get-map named_in c.args.groups.now.entries c.args.place)

pub returns-in-None : goal.returns-in-None
returns-in-None c =
    ap (option_map named_in) c.in-None.ensures.entry ∙ sym (slice_get-map named_in c.args.groups.now.entries c.args.place)
