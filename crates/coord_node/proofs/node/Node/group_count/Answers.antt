use Rattle.std.proofs.Common.{length, sym, ap, subst, ◌∙◌}
use Rattle.std.specs.FinMap as finite
use Rattle.std.proofs.lemmas.List.{length-map}
use Rattle.coord_node.specs.Kept.{group_in}
use Rattle.coord_node.specs.Nodes.{HasEachOnce, NodeValue}
use Rattle.coord_node.specs.NodeView.{named_in}
use Rattle.coord_node.proofs.GroupLemmas.{len-as_map}
use Rattle.coord_node.proofs.ViewLemmas.{groups-in}
use Rattle.coord_node.proofs.node.Node.group_count.Goals as goal

pub returns-clause-count : goal.returns-clause-count
returns-clause-count c = c.len.ensures.len ∙ sym (length-map c.self.inside.groups.entries named_in) ∙ ap (λ (n : NodeValue). length n.groups) c.self.view_is

pub returns-clause-once : goal.returns-clause-once
returns-clause-once c =
    let entries = c.self.inside.groups.entries in
    subst HasEachOnce c.self.view_is (length-map entries named_in ∙ sym (len-as_map group_in entries c.len.ensures.unique) ∙ ap finite.len (sym (groups-in entries)))
