use Rattle.node_laws.proofs.Rooms.{groups_are_made_while_there_is_room}
use Rattle.node_laws.proofs.laws.groups_are_made_while_there_is_room.Goals as goal

pub returns : goal.returns
returns c = groups_are_made_while_there_is_room
