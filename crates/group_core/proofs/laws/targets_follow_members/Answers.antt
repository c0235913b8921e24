use Rattle.group_core.proofs.laws.targets_follow_members.Goals as goal

pub returns : goal.returns
returns c = c.targets_follow_by_lawful_assignors.ensures c.assignors_are_lawful.ensures
