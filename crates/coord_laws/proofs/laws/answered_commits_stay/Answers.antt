use Rattle.coord_laws.proofs.AnsweredCommits.{answered_commits_stay}
use Rattle.coord_laws.proofs.laws.answered_commits_stay.Goals as goal

pub returns : goal.returns
returns c = answered_commits_stay c.one_request_a_body.ensures c.offsets_are_the_last.ensures c.steps_are_sound.ensures
