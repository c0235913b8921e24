use Rattle.node_laws.proofs.OtherGroups.{images_change_the_image_alone}
use Rattle.node_laws.proofs.laws.images_change_the_image_alone.Goals as goal

pub returns : goal.returns
returns c = images_change_the_image_alone
