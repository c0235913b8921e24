use Rattle.group_types.proofs.GoneAway.{going_away_keeps_place}
use Rattle.group_types.proofs.laws.going_away_keeps_place.Goals as goal

pub returns : goal.returns
returns c = going_away_keeps_place
