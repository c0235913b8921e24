use Rattle.group_types.proofs.Releases.{releases_are_timed}
use Rattle.group_types.proofs.laws.releases_are_timed.Goals as goal

pub returns : goal.returns
returns c = releases_are_timed
