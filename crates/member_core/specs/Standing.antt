-- Where a client stands by its state.
use Rattle.member_core.specs.Client.{Place, Outside, Inside, Gone, State, IsOutside, IsSteady, IsReleasing, IsGone}

-- a state's kind of place
abbrev pub place_in : State → Place
place_in IsOutside = Outside
place_in IsSteady = Inside
place_in IsReleasing = Inside
place_in IsGone = Gone
