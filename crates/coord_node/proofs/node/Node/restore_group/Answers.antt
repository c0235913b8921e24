use Rattle.std.proofs.Common.{◌≡◌, IfOk, map, refl, subst}
use Rattle.std.specs.Prelude.{◌↔◌, IsTrue}
use Rattle.group_core.specs.Group.{GroupValue}
use Rattle.coord_node.specs.Coordinator.{Coordinator}
use Rattle.coord_node.specs.Nodes.{NodeValue, held_of}
use Rattle.coord_node.specs.Kept.{HasRightNumber}
use Rattle.coord_node.specs.NodeView.{named_in, node_view}
use Rattle.coord_node.specs.Restored.{CanBeKept, with_named_if}
use Rattle.coord_node.proofs.KeptLemmas.{HasRightNumber-new}
use Rattle.coord_node.proofs.RestoredGroups.{each_still, group_added}
use Rattle.coord_node.proofs.ViewLemmas.{coordinator-is}
use Rattle.coord_node.proofs.node.Node.restore_group.Goals as goal

pub invariant_of-self : goal.invariant_of-self
invariant_of-self c =
    let n = c.self.inside in
    record {
      kept = each_still n.groups.entries c.restore.new.groups.entries c.args.name.now c.of.result (HasRightNumber n.generation n.image) c.restore.result
          c.self.invariant.kept (HasRightNumber-new n.generation n.image c.of.result c.of.ensures.known) c.restore.ensures.kept c.restore.ensures.refused c.restore.ensures.err;
      few = c.restore.ensures.few c.self.invariant.few;
    }

pub returns-clause-can : goal.returns-clause-can
returns-clause-can c =
    subst (λ (x : Coordinator). IfOk c.restore.result (λ yes. IsTrue yes ↔ CanBeKept x.groups c.args.name.now)) (coordinator-is c.self.inside c.args.self.now c.self.view_is) c.restore.ensures.can

pub returns-clause-kept : goal.returns-clause-kept
returns-clause-kept c =
    let n = c.self.inside in
    let r = c.restore.result in
    let name = c.args.name.now in
    let after : NodeValue = record (node_view n) { groups = map named_in c.restore.new.groups.entries } in
    let added = group_added n.groups.entries c.restore.new.groups.entries name c.of.result (node_view n) refl r c.restore.ensures.kept c.restore.ensures.refused in
    subst (λ (x : NodeValue). IfOk r (λ yes. after ≡ with_named_if yes x (name, held_of c.args.group))) c.self.view_is
    (subst (λ (g : GroupValue). IfOk r (λ yes. after ≡ with_named_if yes (node_view n) (name, held_of g))) c.of.ensures.group added)
