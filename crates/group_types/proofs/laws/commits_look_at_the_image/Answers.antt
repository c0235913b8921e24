use Rattle.group_types.proofs.OffsetLemmas.{commits_look_at_the_image}
use Rattle.group_types.proofs.laws.commits_look_at_the_image.Goals as goal

pub returns : goal.returns
returns c = commits_look_at_the_image
