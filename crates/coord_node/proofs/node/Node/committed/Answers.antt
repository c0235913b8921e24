use Rattle.std.proofs.Common.{rules, ◌≡◌, option_map, sym, ap, ◌∙◌, to_z, of_z, w32}
use Rattle.std.specs.FinMap as finite
use Rattle.coord_node.specs.declared.kept.Kept.{Kept}
use Rattle.coord_node.specs.Coordinator.{Coordinator, committed_at}
use Rattle.coord_node.specs.Nodes.{coordinator_of}
use Rattle.coord_node.proofs.GroupLemmas.{get-as_map}
use Rattle.coord_node.proofs.ViewLemmas.{coordinator-is}
use Rattle.coord_node.proofs.node.Node.committed.Goals as goal

pub returns-in-Some : goal.returns-in-Some
returns-in-Some c =
    let index : to_z w32 (of_z w32 c.args.index) ≡ c.args.index = search rules in
    c.committed.ensures
    ∙ ap (λ o. committed_at o (c.args.name.now, to_z w32 (of_z w32 c.args.index))) (ap (option_map (λ (k : Kept). k.group.state)) c.in-Some.ensures.value
    ∙ sym (get-as_map (λ (k : Kept). k.group.state) c.self.inside.groups.entries c.args.group.now)
    ∙ ap (λ (n : Coordinator). finite.get n.groups c.args.group.now) (coordinator-is c.self.inside c.args.self.now c.self.view_is))
    ∙ ap (λ i. committed_at (finite.get (coordinator_of c.args.self.now).groups c.args.group.now) (c.args.name.now, i)) index

pub returns-in-None : goal.returns-in-None
returns-in-None c =
    ap (λ o. committed_at o (c.args.name.now, c.args.index)) (ap (option_map (λ (k : Kept). k.group.state)) c.in-None.ensures.value
    ∙ sym (get-as_map (λ (k : Kept). k.group.state) c.self.inside.groups.entries c.args.group.now)
    ∙ ap (λ (n : Coordinator). finite.get n.groups c.args.group.now) (coordinator-is c.self.inside c.args.self.now c.self.view_is))
