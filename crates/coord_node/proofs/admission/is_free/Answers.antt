use Rattle.coord_node.proofs.RestoredGroups.{name_free}
use Rattle.coord_node.proofs.admission.is_free.Goals as goal

pub returns-then-is_group_id : goal.returns-then-is_group_id
returns-then-is_group_id c =
    let free = name_free c.args.groups.now.entries c.args.name.now c.contains_key.result c.contains_key.ensures in
    (λ so. (c.is_group_id.ensures.0 c.if-is_group_id.true, free.0 so), λ both. free.1 both.1)
