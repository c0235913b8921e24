use Rattle.std.proofs.Common.{◌≡◌, IfOk, map, sym, ap, subst, ◌∙◌}
use Rattle.std.specs.FinMap as finite
use Rattle.std.proofs.lemmas.List.{length-map}
use Rattle.coord_node.specs.Nodes.{HasEachOnce, NodeValue}
use Rattle.coord_node.specs.NodeView.{named_in}
use Rattle.coord_node.specs.Restored.{listed_named}
use Rattle.coord_node.proofs.ViewLemmas.{groups-in}
use Rattle.coord_node.proofs.node.Node.groups.Goals as goal

pub returns-clause-groups : goal.returns-clause-groups
returns-clause-groups c = subst (λ (n : NodeValue). IfOk c.listed.result (λ list. map listed_named list.items ≡ n.groups)) c.self.view_is c.listed.ensures.groups

pub returns-clause-once : goal.returns-clause-once
returns-clause-once c =
    let entries = c.self.inside.groups.entries in
    subst HasEachOnce c.self.view_is (length-map entries named_in ∙ c.listed.ensures.once ∙ ap finite.len (sym (groups-in entries)))
