use Rattle.group_types.proofs.Closing.{closes_on_the_overtaken}
use Rattle.group_types.proofs.laws.closes_on_the_overtaken.Goals as goal

pub returns : goal.returns
returns c = closes_on_the_overtaken
