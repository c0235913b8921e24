use Rattle.group_types.proofs.Shown.{assignments_are_news}
use Rattle.group_types.proofs.laws.assignments_are_news.Goals as goal

pub returns : goal.returns
returns c = assignments_are_news
