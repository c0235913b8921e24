use Rattle.std.proofs.Common.{ap, ◌∙◌}
use Rattle.std.specs.Prelude.{slice_get}
use Rattle.coord_node.specs.Nodes.{NodeValue}
use Rattle.coord_node.proofs.node.Node.group_at.Goals as goal

pub returns : goal.returns
returns c = c.named_at.ensures ∙ ap (λ (n : NodeValue). slice_get n.groups c.args.place) c.self.view_is
