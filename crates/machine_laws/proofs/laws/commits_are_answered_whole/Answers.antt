use Rattle.machine_laws.proofs.Whole.{commits_are_answered_whole}
use Rattle.machine_laws.proofs.laws.commits_are_answered_whole.Goals as goal

pub returns : goal.returns
returns c = commits_are_answered_whole
