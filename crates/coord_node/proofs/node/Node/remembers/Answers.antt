use Rattle.std.proofs.Common.{option_map, sym, ap, ◌∙◌}
use Rattle.std.specs.FinMap as finite
use Rattle.coord_node.specs.declared.kept.Kept.{Kept}
use Rattle.coord_node.specs.Coordinator.{Coordinator, is_remembered_at}
use Rattle.coord_node.proofs.GroupLemmas.{get-as_map}
use Rattle.coord_node.proofs.ViewLemmas.{coordinator-is}
use Rattle.coord_node.proofs.node.Node.remembers.Goals as goal

pub returns-in-Some : goal.returns-in-Some
returns-in-Some c =
    c.remembers.ensures
    ∙ ap (λ o. is_remembered_at o c.args.id.now) (ap (option_map (λ (k : Kept). k.group.state)) c.in-Some.ensures.value
    ∙ sym (get-as_map (λ (k : Kept). k.group.state) c.self.inside.groups.entries c.args.group.now)
    ∙ ap (λ (n : Coordinator). finite.get n.groups c.args.group.now) (coordinator-is c.self.inside c.args.self.now c.self.view_is))

pub returns-in-None : goal.returns-in-None
returns-in-None c =
    ap (λ o. is_remembered_at o c.args.id.now) (ap (option_map (λ (k : Kept). k.group.state)) c.in-None.ensures.value
    ∙ sym (get-as_map (λ (k : Kept). k.group.state) c.self.inside.groups.entries c.args.group.now)
    ∙ ap (λ (n : Coordinator). finite.get n.groups c.args.group.now) (coordinator-is c.self.inside c.args.self.now c.self.view_is))
