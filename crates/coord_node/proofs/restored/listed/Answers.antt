use Rattle.std.proofs.Common.{sym, ap}
use Rattle.group_types.specs.Text.{Text}
use Rattle.coord_node.specs.Kept.{group_in}
use Rattle.coord_node.specs.Nodes.{held_of}
use Rattle.coord_node.proofs.GroupLemmas.{len-as_map}
use Rattle.coord_node.proofs.RestoredGroups.{one_listed}
use Rattle.coord_node.proofs.restored.listed.Goals as goal

pub loop-place-preserved : goal.loop-place-preserved
loop-place-preserved c =
    let kept = c.in-Some.kept.now in
    one_listed c.loop-place.list.items c.push.new.self.items c.args.groups.now.entries c.loop-place.place _ (c.in-Some.name.now, kept) c.loop-place.invariant
    (sym c.in-Some.ensures.entry) (ap (λ (t : Text). (t, held_of kept.group)) c.as_str.ensures.value) c.in_ok-push.ensures.items

pub returns-clause-once : goal.returns-clause-once
returns-clause-once c = sym (len-as_map group_in c.args.groups.now.entries c.len-place-end.ensures.unique)

pub returns-in_err-push-clause-once : goal.returns-in_err-push-clause-once
returns-in_err-push-clause-once c = sym (len-as_map group_in c.args.groups.now.entries c.len-place-end.ensures.unique)
