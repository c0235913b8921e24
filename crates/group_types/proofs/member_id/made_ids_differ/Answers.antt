use Rattle.group_types.proofs.MadeIds as made
use Rattle.group_types.proofs.member_id.made_ids_differ.Goals as goal

pub returns : goal.returns
returns c = made.made_ids_differ
